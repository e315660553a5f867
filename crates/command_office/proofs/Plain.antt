-- The outcomes of the commands of the office: except for a solve of an open round, the keeping of a proof and a withdrawal by a key, each is
-- a reply with lines or a refusal.
use Rattle.std.proofs.Common.{◌≡◌, ℕ, Bool, true, false, cond, leb, not, ◌&&◌, ◌==◌, List, [], ◌∷◌, length, Option, Some, None, Result, Ok, Err, refl, subst}
use Rattle.std.specs.Str.{bytes_eq}
use Rattle.std.specs.List.{list_all}
use Rattle.std.proofs.lemmas.Bool.{false≢true}
use Rattle.command_meanings.specs.Imports.{ReadsFile, ReadsRegister, as_command, rules_for}
use Rattle.command_meanings.specs.declared.office.Import.{Import}
use Rattle.command_meanings.specs.declared.office.Import.TheVariants as imports
use Rattle.define_imports.specs.Cells.{Fault}
use Rattle.define_draws.specs.Draw as draws
use Rattle.define_draws.specs.Draw.{draw}
use Rattle.define_draws.specs.Seal.{is_seal}
use Rattle.define_pools.specs.Lists.{includes_list}
use Rattle.define_pools.specs.Pool.{Category, Pool}
use Rattle.define_bundles.specs.BundleText.{Bundle}
use Rattle.define_offices.specs.Commands.{Command, SetCharter, SetRules, Register, Solve, Keep, Seal, Draw, Drop, NextRound, Show, Withdraw, SetBounds, TryDraw, Undrop, Reopen, WithdrawId, Given, Lines, NoPanel, Outcome, Refusal, Refuses, Replies, Stops, Unproved}
use Rattle.define_offices.specs.Deciding.{IsDecided, Sorted, are_rules_kept, asked, asked_over, bounds_in, bounds_over, charter_over, decide_charter, decide_rules, draw_in, drawn_ids, drop_in, fit_rows, fits_rules, is_charter_kept, is_last_open, is_seated_in, is_withdrawn, new_draw, next_after, next_in, place_of_id, register_by, registered, reopen_at, reopen_in, row_beyond, same_seal, seal_in, show_in, solve_in, sorted_rows, tickets_or_none, undrop_in, with_id, withdraw_id_at, without_change}
use Rattle.define_draws.specs.Lines.{bundle_seal}
use Rattle.define_offices.specs.Pools.{drawn_lottery, pool_of}
use Rattle.define_offices.specs.Steps.{AtOnce, ByRun, Comes}
use Rattle.define_offices.specs.Tables.{Charter, Entry, Round, Open, Solved, Sealed, Drawn, Tables, is_enrolling, most_rows, named_round, same_rules, same_shape}

-- a reply with lines, or a refusal
abbrev pub is_plain : Outcome → Bool
is_plain (Replies change (Lines text)) = true
is_plain (Refuses refusal) = true
is_plain other = false

abbrev pub is_plain_command : Command → Bool
is_plain_command (Solve round limits) = false
is_plain_command (Keep round proof) = false
is_plain_command (Withdraw key) = false
is_plain_command other = true

-- the outcome is plain. This is a record, so that the two outcomes of a choice can be inferred from the proofs about them
pub record IsPlain (outcome : Outcome) : Type 0 where
  pub plain : is_plain outcome ≡ true

if_plain : (test : Bool) (one other : Outcome) → IsPlain one → IsPlain other → IsPlain (cond test one other)
if_plain true one other is was = is
if_plain false one other is was = was

decided_so : (own outcome : Outcome) → IsPlain own → IsDecided own ≡ IsDecided outcome → is_plain outcome ≡ true
decided_so own outcome is h = let e : own ≡ outcome = cc in subst (λ o. is_plain o ≡ true) e is.plain

module _ (tables : Tables) where
  over_plain_rows : (charter : Charter) (beyond : Option Entry) → IsPlain (charter_over charter beyond)
  over_plain_rows charter None = record { plain = refl }
  over_plain_rows charter (Some entry) = record { plain = refl }

  charter_plain : (charter : Charter) → IsPlain (decide_charter tables charter)
  charter_plain charter =
      if_plain (is_charter_kept tables.charter charter) _ _ (record { plain = refl })
      (if_plain (is_enrolling tables.rounds) _ _ (over_plain_rows charter (row_beyond tables.register charter.volunteers)) (record { plain = refl }))

  rules_plain : (rules : List Category) → IsPlain (decide_rules tables rules)
  rules_plain rules =
      if_plain (are_rules_kept tables.rules rules) _ _ (record { plain = refl })
      (if_plain (not (is_enrolling tables.rounds)) _ _ (record { plain = refl })
      (if_plain (fit_rows tables.register tables.rules rules) _ _ (record { plain = refl }) (record { plain = refl })))

  registered_plain : (result : Result Sorted Refusal) → IsPlain (registered tables result)
  registered_plain (Ok sorted) = record { plain = refl }
  registered_plain (Err refusal) = record { plain = refl }

  register_plain : (rows : List Given) (rules : Option (List Category)) → IsPlain (register_by tables rows rules)
  register_plain rows None = record { plain = refl }
  register_plain rows (Some rules) =
      if_plain (list_all (λ given. fits_rules rules given.values) rows) _ _ (registered_plain (sorted_rows (most_rows tables.charter) tables.rounds tables.register rows)) (record { plain = refl })

  same_seal_plain : (bundle : Bundle) (kept given : Option ℕ) → IsPlain (same_seal bundle kept given)
  same_seal_plain bundle kept None = record { plain = refl }
  same_seal_plain bundle kept (Some given) = if_plain (tickets_or_none kept == given) _ _ (record { plain = refl }) (record { plain = refl })

  seal_plain : (number : ℕ) (given : Option ℕ) (found : Option Round) → IsPlain (seal_in tables number given found)
  seal_plain number given None = record { plain = refl }
  seal_plain number given (Some Open) = record { plain = refl }
  seal_plain number given (Some (Solved bundle)) = record { plain = refl }
  seal_plain number given (Some (Sealed bundle tickets)) = same_seal_plain bundle tickets given
  seal_plain number given (Some (Drawn bundle tickets digits dropped)) = same_seal_plain bundle tickets given

  new_draw_plain : (number : ℕ) (bundle : Bundle) (given digits : List ℕ) (result : Result draws.Drawn draws.Refused) → IsPlain (new_draw number bundle given digits result)
  new_draw_plain number bundle given digits (Ok drawn) = record { plain = refl }
  new_draw_plain number bundle given digits (Err refused) = record { plain = refl }

  draw_plain : (number : ℕ) (given digits : List ℕ) (found : Option Round) → IsPlain (draw_in tables number given digits found)
  draw_plain number given digits None = record { plain = refl }
  draw_plain number given digits (Some Open) = record { plain = refl }
  draw_plain number given digits (Some (Solved bundle)) = record { plain = refl }
  draw_plain number given digits (Some (Sealed bundle tickets)) = new_draw_plain number bundle given digits (draw (drawn_lottery bundle tickets) (bundle_seal bundle) given digits)
  draw_plain number given digits (Some (Drawn bundle tickets kept dropped)) =
      if_plain (not (is_seal (bundle_seal bundle) given)) _ _ (record { plain = refl })
      (if_plain (bytes_eq kept digits) _ _ (record { plain = refl }) (record { plain = refl }))

  -- An outcome without its change is as plain as with it.
  tried_plain : (outcome : Outcome) → IsPlain outcome → IsPlain (without_change outcome)
  tried_plain (Replies change (Lines text)) is = record { plain = refl }
  tried_plain (Replies change NoPanel) is = absurd (false≢true is.plain)
  tried_plain (Refuses refusal) is = record { plain = refl }
  tried_plain (Stops ending) is = absurd (false≢true is.plain)
  tried_plain (Unproved refusal) is = absurd (false≢true is.plain)

  drop_plain : (number : ℕ) (id : List ℕ) (found : Option Round) → IsPlain (drop_in tables number id found)
  drop_plain number id None = record { plain = refl }
  drop_plain number id (Some Open) = record { plain = refl }
  drop_plain number id (Some (Solved bundle)) = record { plain = refl }
  drop_plain number id (Some (Sealed bundle tickets)) = record { plain = refl }
  drop_plain number id (Some (Drawn bundle tickets digits dropped)) =
      if_plain (not (includes_list (drawn_ids bundle tickets digits) id)) _ _ (record { plain = refl })
      (if_plain (includes_list dropped id) _ _ (record { plain = refl })
      (if_plain (number == length tables.rounds) _ _ (record { plain = refl }) (record { plain = refl })))

  undrop_plain : (number : ℕ) (id : List ℕ) (found : Option Round) → IsPlain (undrop_in tables number id found)
  undrop_plain number id None = record { plain = refl }
  undrop_plain number id (Some Open) = record { plain = refl }
  undrop_plain number id (Some (Solved bundle)) = record { plain = refl }
  undrop_plain number id (Some (Sealed bundle tickets)) = record { plain = refl }
  undrop_plain number id (Some (Drawn bundle tickets digits dropped)) =
      if_plain (not (includes_list dropped id)) _ _ (record { plain = refl })
      (if_plain (is_withdrawn (with_id tables.register id)) _ _ (record { plain = refl })
      (if_plain (number == length tables.rounds) _ _ (record { plain = refl }) (record { plain = refl })))

  after_plain : (number : ℕ) (round : Round) → IsPlain (next_after number round)
  after_plain number Open = record { plain = refl }
  after_plain number (Solved bundle) = record { plain = refl }
  after_plain number (Sealed bundle tickets) = record { plain = refl }
  after_plain number (Drawn bundle tickets digits []) = record { plain = refl }
  after_plain number (Drawn bundle tickets digits (id ∷ dropped)) = record { plain = refl }

  next_plain : (number : ℕ) (found : Option Round) → IsPlain (next_in tables number found)
  next_plain number None = record { plain = refl }
  next_plain number (Some round) = if_plain (number == length tables.rounds) _ _ (after_plain number round) (record { plain = refl })

  taken_plain : (number : ℕ) (round : Round) → IsPlain (reopen_at number round)
  taken_plain number Open = record { plain = refl }
  taken_plain number (Solved bundle) = record { plain = refl }
  taken_plain number (Sealed bundle tickets) = record { plain = refl }
  taken_plain number (Drawn bundle tickets digits dropped) = record { plain = refl }

  reopen_plain : (number : ℕ) (found : Option Round) → IsPlain (reopen_in tables number found)
  reopen_plain number None = record { plain = refl }
  reopen_plain number (Some round) = if_plain (number == length tables.rounds) _ _ (taken_plain number round) (record { plain = refl })

  withdraw_plain : (id : List ℕ) (found : Option (ℕ × Entry)) → IsPlain (withdraw_id_at tables id found)
  withdraw_plain id None = record { plain = refl }
  withdraw_plain id (Some (place, entry)) =
      if_plain entry.withdrawn _ _ (record { plain = refl })
      (if_plain (is_last_open tables.rounds && not (is_seated_in (pool_of tables (length tables.rounds)) place)) _ _ (record { plain = refl }) (record { plain = refl }))

  open_bounds_plain : (pool : Pool) (bounds : List Category) (round : Round) → IsPlain (bounds_in pool bounds round)
  open_bounds_plain pool bounds Open = if_plain (same_shape pool.categories bounds) _ _ (record { plain = refl }) (record { plain = refl })
  open_bounds_plain pool bounds (Solved bundle) = record { plain = refl }
  open_bounds_plain pool bounds (Sealed bundle tickets) = record { plain = refl }
  open_bounds_plain pool bounds (Drawn bundle tickets digits dropped) = record { plain = refl }

  bounds_plain : (bounds : List Category) (pool : Result Pool Refusal) (found : Option Round) → IsPlain (bounds_over tables bounds pool found)
  bounds_plain bounds (Err refusal) found = record { plain = refl }
  bounds_plain bounds (Ok pool) None = record { plain = refl }
  bounds_plain bounds (Ok pool) (Some round) = if_plain (same_rules pool.categories bounds) _ _ (record { plain = refl }) (open_bounds_plain pool bounds round)

  show_plain : (found : Option Round) → IsPlain (show_in tables found)
  show_plain None = record { plain = refl }
  show_plain (Some Open) = record { plain = refl }
  show_plain (Some (Solved bundle)) = record { plain = refl }
  show_plain (Some (Sealed bundle tickets)) = record { plain = refl }
  show_plain (Some (Drawn bundle tickets digits dropped)) = record { plain = refl }

  asked_plain : (command : Command) (outcome : Outcome) → is_plain_command command ≡ true → asked tables command ≡ IsDecided outcome → is_plain outcome ≡ true
  asked_plain (SetCharter charter) outcome plain h = decided_so _ outcome (charter_plain charter) h
  asked_plain (SetRules rules) outcome plain h = decided_so _ outcome (rules_plain rules) h
  asked_plain (Register rows) outcome plain h = decided_so _ outcome (register_plain rows tables.rules) h
  asked_plain (Seal number given) outcome plain h = decided_so _ outcome (seal_plain number given (named_round tables.rounds number)) h
  asked_plain (Draw number given digits) outcome plain h = decided_so _ outcome (draw_plain number given digits (named_round tables.rounds number)) h
  asked_plain (Drop number id) outcome plain h = decided_so _ outcome (drop_plain number id (named_round tables.rounds number)) h
  asked_plain (NextRound after) outcome plain h = decided_so _ outcome (next_plain after (named_round tables.rounds after)) h
  asked_plain (Show number) outcome plain h = decided_so _ outcome (show_plain (named_round tables.rounds number)) h
  asked_plain (SetBounds number bounds) outcome plain h = decided_so _ outcome (bounds_plain bounds (pool_of tables number) (named_round tables.rounds number)) h
  asked_plain (TryDraw number given digits) outcome plain h = decided_so _ outcome (tried_plain _ (draw_plain number given digits (named_round tables.rounds number))) h
  asked_plain (Undrop number id) outcome plain h = decided_so _ outcome (undrop_plain number id (named_round tables.rounds number)) h
  asked_plain (Reopen number) outcome plain h = decided_so _ outcome (reopen_plain number (named_round tables.rounds number)) h
  asked_plain (WithdrawId id) outcome plain h = decided_so _ outcome (withdraw_plain id (place_of_id tables.register id 0)) h
  asked_plain other outcome plain h = absurd (false≢true plain)

  -- A command other than a solve, the keeping of a proof and a withdrawal replies with lines or is refused.
  pub plain_comes : (command : Command) (outcome : Outcome) → is_plain_command command ≡ true → Comes tables command outcome → is_plain outcome ≡ true
  plain_comes command outcome plain (AtOnce h) = asked_plain command outcome plain h
  plain_comes command outcome plain (ByRun n l pool own same needs ends comes) = absurd (false≢true (subst (λ c. is_plain_command c ≡ true) same plain))

  over_plain : (result : Result Pool Refusal) (outcome : Outcome) → asked_over result ≡ IsDecided outcome → is_plain outcome ≡ true
  over_plain (Ok pool) outcome h = absurd (cc)
  over_plain (Err refusal) outcome h = decided_so (Refuses refusal) outcome (record { plain = refl }) h

  -- A solve that is decided without a run replies with lines or is refused.
  pub solve_plain : (number : ℕ) (found : Option Round) (outcome : Outcome) → solve_in tables number found ≡ IsDecided outcome → is_plain outcome ≡ true
  solve_plain number None outcome h = decided_so _ outcome (record { plain = refl }) h
  solve_plain number (Some Open) outcome h = over_plain (pool_of tables number) outcome h
  solve_plain number (Some (Solved bundle)) outcome h = decided_so _ outcome (record { plain = refl }) h
  solve_plain number (Some (Sealed bundle tickets)) outcome h = decided_so _ outcome (record { plain = refl }) h
  solve_plain number (Some (Drawn bundle tickets digits dropped)) outcome h = decided_so _ outcome (record { plain = refl }) h

-- ---- what files are read as

read_plain : {Content : Type 0} (make : Content → Command) → ((content : Content) → is_plain_command (make content) ≡ true) → (result : Result Content Fault) (command : Command) →
    Ok command ≡ as_command make result → is_plain_command command ≡ true
read_plain make plain (Ok content) command h = let e : make content ≡ command = cc in subst (λ c. is_plain_command c ≡ true) e (plain content)
read_plain make plain (Err fault) command h = absurd (cc)

rows_plain : (rules : Option (List Category)) (bytes : List ℕ) (command : Command) → ReadsRegister rules bytes (Ok command) → is_plain_command command ≡ true
rows_plain None bytes command reads = absurd reads
rows_plain (Some rules) bytes command (said, reads, is) = read_plain Register (λ content. refl) said command is

rules_plain_for : (round : ℕ) (rules : List Category) → is_plain_command (rules_for round rules) ≡ true
rules_plain_for round rules = by (leb 2 round)
  where
    by : (later : Bool) → is_plain_command (cond later (SetBounds round rules) (SetRules rules)) ≡ true
    by true = refl
    by false = refl

-- what is imported is a charter, rules, bounds or rows of the register, and no proof
abbrev pub is_plain_import : Import → Bool
is_plain_import (imports.Proof round) = false
is_plain_import other = true

pub file_plain : (import : Import) (tables : Tables) (bytes : List ℕ) (command : Command) → is_plain_import import ≡ true → ReadsFile import tables bytes (Ok command) → is_plain_command command ≡ true
file_plain imports.Charter tables bytes command plain is = read_plain SetCharter (λ content. refl) _ command is
file_plain (imports.Rules round) tables bytes command plain (said, reads, is) = read_plain (rules_for round) (λ content. rules_plain_for round content) said command is
file_plain imports.Register tables bytes command plain reads = rows_plain tables.rules bytes command reads
file_plain (imports.Proof round) tables bytes command plain is = absurd (false≢true plain)
