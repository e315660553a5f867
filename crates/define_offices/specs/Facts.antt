-- The facts that hold of all tables of an office, and the limits of its commands.
use Rattle.std.specs.Prelude.{◌≡◌, ℕ, ◌^◌, nat_le, Bool, true, false, not, ◌&&◌, ◌||◌, IsTrue, List, [], ◌∷◌, map, length, codes, bytes_eq, Option, Some, None, is_some, is_ok, ⊤}
use Rattle.std.specs.List.{list_all}
use Rattle.define_pools.specs.Building.{category_names, ids}
use Rattle.define_pools.specs.Certificate.{Certifies}
use Rattle.define_pools.specs.Lists.{all_different, includes_list}
use Rattle.define_pools.specs.Lottery.{TotalAgrees, LeximinGreatest}
use Rattle.define_pools.specs.declared.Limits.TheVariants.{Large}
use Rattle.define_pools.specs.Pool.{Category, is_category, is_household, is_name, is_size, limits_for, most_volunteers}
use Rattle.define_bundles.specs.BundleText.{Bundle, IsBundle}
use Rattle.define_draws.specs.Dice.{name_ticket}
use Rattle.define_proofs.specs.ProofText.{IsProof}
use Rattle.define_runs.specs.Keeps.{AreLimits}
use Rattle.define_offices.specs.Tables.{Charter, Entry, Round, Open, Solved, Sealed, Drawn, Tables, bundle_of, most_rows, round_at}
use Rattle.define_offices.specs.Commands.{Given, Command, SetCharter, SetRules, Register, Solve, Keep, Seal, Draw, Drop, NextRound, Show, Withdraw, SetBounds, TryDraw, Undrop, Reopen, WithdrawId}
use Rattle.define_offices.specs.Deciding.{drawn_ids, fits_rules}
use Rattle.define_offices.specs.Pools.{drawn_lottery}

-- ---- the facts of tables

-- a register takes 1 to 4,000 rows
abbrev pub is_most : ℕ → Bool
is_most volunteers = nat_le 1 volunteers && nat_le volunteers (most_volunteers Large)

-- the title is a name, the number of rows is in its range, and the size is in the range for this number
abbrev pub is_charter : Charter → Bool
is_charter charter = is_name charter.title && is_most charter.volunteers && is_size (limits_for charter.volunteers) charter.size

-- no round number of tickets, or one from 1 to 1,000,000,000
abbrev pub are_tickets : Option ℕ → Bool
are_tickets None = true
are_tickets (Some tickets) = nat_le 1 tickets && nat_le tickets (10 ^ 9)

-- the name is `id` or `key`. No category can have it, since each register has a column of this name
abbrev pub is_reserved : List ℕ → Bool
is_reserved name = bytes_eq name (codes "id") || bytes_eq name (codes "key")

-- categories may be rules: there is at least one, each has a value, and none has a reserved name
abbrev pub are_rules : List Category → Bool
are_rules categories =
    nat_le 1 (length categories) && list_all (λ category. nat_le 1 (length category.values)) categories && list_all (λ category. not (is_reserved category.name)) categories

-- categories that a pool may have, and that may be rules
pub record AreRules (categories : List Category) : Type 0 where
  pub few : IsTrue (nat_le (length categories) 20)
  pub each : IsTrue (list_all is_category categories)
  pub different : IsTrue (all_different (category_names categories))
  pub are : IsTrue (are_rules categories)

abbrev pub is_entry : Entry → Bool
is_entry entry = is_name entry.id && is_household entry.household

-- without rules the register is empty; with rules each row has a value of each category
abbrev pub rows_fit : Option (List Category) → List Entry → Bool
rows_fit None [] = true
rows_fit None (entry ∷ register) = false
rows_fit (Some categories) register = list_all (λ entry. fits_rules categories entry.values) register

abbrev pub entry_ids : List Entry → List (List ℕ)
entry_ids register = map (λ entry. entry.id) register

abbrev pub entry_hashes : List Entry → List (List ℕ)
entry_hashes register = map (λ entry. entry.hash) register

-- there are a charter and rules, the bundle satisfies `IsBundle`, its weights sum to its total, and its volunteers have the ids of the
-- register's rows, in the same order
pub record KeepsBundle (tables : Tables) (bundle : Bundle) : Type 0 where
  pub charter : IsTrue (is_some tables.charter)
  pub rules : IsTrue (is_some tables.rules)
  pub is_bundle : IsBundle bundle
  pub total_agrees : TotalAgrees bundle.answer.lottery
  pub same_ids : ids bundle.pool.volunteers ≡ entry_ids tables.register

-- the digits name a ticket of the lottery that is drawn from, and everybody in `dropped` is on the panel that they draw
pub record KeepsDraw (bundle : Bundle) (tickets : Option ℕ) (digits : List ℕ) (dropped : List (List ℕ)) : Type 0 where
  pub in_range : IsTrue (are_tickets tickets)
  pub named : IsTrue (is_ok (name_ticket (drawn_lottery bundle tickets).total digits))
  pub from_panel : IsTrue (list_all (includes_list (drawn_ids bundle tickets digits)) dropped)

abbrev pub KeepsRound : Tables → Round → Type 0
KeepsRound tables Open = ⊤
KeepsRound tables (Solved bundle) = KeepsBundle tables bundle
KeepsRound tables (Sealed bundle tickets) = KeepsBundle tables bundle × IsTrue (are_tickets tickets)
KeepsRound tables (Drawn bundle tickets digits dropped) = KeepsBundle tables bundle × KeepsDraw bundle tickets digits dropped

-- the round is drawn, and somebody dropped out after the draw
abbrev pub has_drop : Round → Bool
has_drop Open = false
has_drop (Solved bundle) = false
has_drop (Sealed bundle tickets) = false
has_drop (Drawn bundle tickets digits []) = false
has_drop (Drawn bundle tickets digits (id ∷ dropped)) = true

-- there is a round, and each round except the last is drawn and has a dropout
abbrev pub closed_but_last : List Round → Bool
closed_but_last [] = false
closed_but_last (round ∷ []) = true
closed_but_last (round ∷ next ∷ later) = has_drop round && closed_but_last (next ∷ later)

pub record IsTables (tables : Tables) : Type 0 where
  pub charter : (charter : Charter) → tables.charter ≡ Some charter → IsTrue (is_charter charter)
  pub rules : (categories : List Category) → tables.rules ≡ Some categories → AreRules categories
  pub bounds : (bounds : List Category) → tables.bounds ≡ Some bounds → AreRules bounds
  pub few_rows : IsTrue (nat_le (length tables.register) (most_rows tables.charter))
  pub rows : IsTrue (list_all is_entry tables.register)
  pub fit : IsTrue (rows_fit tables.rules tables.register)
  pub different_ids : IsTrue (all_different (entry_ids tables.register))
  pub different_keys : IsTrue (all_different (entry_hashes tables.register))
  pub closed : IsTrue (closed_but_last tables.rounds)
  pub rounds : (place : ℕ) (round : Round) → round_at tables.rounds place ≡ Some round → KeepsRound tables round

-- ---- the limits of commands

abbrev pub is_key : List ℕ → Bool
is_key key = nat_le 1 (length key) && nat_le (length key) 200 && list_all (λ byte. nat_le 33 byte && nat_le byte 126) key

abbrev pub is_given : Given → Bool
is_given given = is_name given.id && is_key given.key && is_household given.household

-- a charter, rules, rows, a proof or a number of tickets are within their limits, and the limits of a run are in their ranges. Bounds are
-- set, and a round is taken away, from round 2 on
abbrev pub IsCommand : Command → Type 0
IsCommand (SetCharter charter) = IsTrue (is_charter charter)
IsCommand (SetRules categories) = AreRules categories
IsCommand (Register rows) = IsTrue (list_all is_given rows)
IsCommand (Solve round limits) = AreLimits limits
IsCommand (Keep round proof) = IsProof proof
IsCommand (Seal round tickets) = IsTrue (are_tickets tickets)
IsCommand (Draw round given digits) = ⊤
IsCommand (Drop round id) = ⊤
IsCommand (NextRound after) = ⊤
IsCommand (Show round) = ⊤
IsCommand (Withdraw key) = ⊤
IsCommand (SetBounds round bounds) = IsTrue (nat_le 2 round) × AreRules bounds
IsCommand (TryDraw round given digits) = ⊤
IsCommand (Undrop round id) = ⊤
IsCommand (Reopen round) = IsTrue (nat_le 2 round)
IsCommand (WithdrawId id) = ⊤

-- ---- certificates

-- the lottery of each bundle that is kept is certified by its stages
abbrev pub AreCertified : Tables → Type 0
AreCertified tables = (place : ℕ) (round : Round) (bundle : Bundle) → round_at tables.rounds place ≡ Some round → bundle_of round ≡ Some bundle →
    Certifies bundle.pool bundle.answer.lottery bundle.answer.stages

-- the lottery of each bundle that is kept is leximin greatest over the bundle's pool
abbrev pub AreGreatest : Tables → Type 0
AreGreatest tables = (place : ℕ) (round : Round) (bundle : Bundle) → round_at tables.rounds place ≡ Some round → bundle_of round ≡ Some bundle →
    LeximinGreatest bundle.pool bundle.answer.lottery
