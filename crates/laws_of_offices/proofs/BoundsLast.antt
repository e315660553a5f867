-- Bounds that got a reply are those of the round's pool until a command may change them; when the next round begins they are no longer used.
use Rattle.std.proofs.Common.{◌≡◌, ℕ, zero, suc, false, List, Option, Some, None, Result, Ok, Err, refl, sym, ap, ◌∙◌, subst}
use Rattle.std.specs.List.{AllByRecursion}
use Rattle.std.specs.Prelude.{codes}
use Rattle.define_pools.specs.Pool.{Category, Pool}
use Rattle.define_offices.specs.Tables.{Charter, Round, Open, Solved, Sealed, Drawn, Tables, named_round, round_at}
use Rattle.define_offices.specs.Commands.{Command, NextRound, SetBounds, Begun, Change, Refusal, Replies, Reply}
use Rattle.define_offices.specs.Deciding.{bounds_over, tells}
use Rattle.define_offices.specs.Facts.{IsCommand, IsTables}
use Rattle.define_offices.specs.Lines.{rules_line}
use Rattle.define_offices.specs.Pools.{pool_by, pool_if, pool_of}
use Rattle.define_offices.specs.Steps.{Comes, LeadThrough, applied}
use Rattle.define_offices.proofs.Again.{bounds_again, bounds_hold, says}
use Rattle.define_offices.proofs.Steps.{comes_keeps}
use Rattle.laws_of_offices.specs.Bounds.{HasCategories, may_change}
use Rattle.laws_of_offices.proofs.ChangesFit.{IsNext, changes_fit}
use Rattle.laws_of_offices.proofs.EqualRules.{equal_rules}
use Rattle.laws_of_offices.proofs.Open.{bounds_stay, open_is_last}

-- ---- bounds that got a reply

-- if bounds get a reply, there is a pool
has_pool : (tables : Tables) (bounds : List Category) (line : List ℕ) (result : Result Pool Refusal) (found : Option Round) → bounds_over tables bounds result found ≡ tells line → (pool : Pool) × (result ≡ Ok pool)
has_pool tables bounds line (Err refusal) found h = absurd (cc)
has_pool tables bounds line (Ok pool) found h = (pool, refl)

has_bounds : (tables : Tables) (number : ℕ) (bounds : List Category) (change : Option Change) (reply : Reply) → IsTables tables → IsCommand (SetBounds number bounds) → Comes tables (SetBounds number bounds) (Replies change reply) →
    HasCategories (applied tables change) number bounds
has_bounds tables number bounds change reply keeps within comes =
    let later = applied tables change in
    let told = says _ _ (bounds_again tables number bounds change reply keeps within comes) in
    let has = has_pool later bounds (rules_line (codes "same")) (pool_of later number) (named_round later.rounds number) told in
    record { pool = has.0; is = has.1; same = equal_rules has.0.categories bounds (bounds_hold tables number bounds change reply has.0 keeps within comes has.1) }

pub bounds_last : (tables : Tables) (number : ℕ) (bounds : List Category) (change : Option Change) (reply : Reply) (commands : List Command) (after : Tables) → IsTables tables → IsCommand (SetBounds number bounds) →
    Comes tables (SetBounds number bounds) (Replies change reply) → AllByRecursion IsCommand commands → AllByRecursion (λ command. may_change command number ≡ false) commands → LeadThrough (applied tables change) commands after →
    HasCategories after number bounds
bounds_last tables number bounds change reply commands after keeps within comes each may_not leads =
    bounds_stay (applied tables change) commands after number bounds (comes_keeps tables keeps (SetBounds number bounds) (Replies change reply) within comes) each may_not leads
    (has_bounds tables number bounds change reply keeps within comes)

-- ---- bounds of a round that has its bundle

module _ (tables : Tables) (place : ℕ) where
  -- the pool of a round that isn't open has no use for bounds
  same_by : (round : Round) → (round ≡ Open → ⊥) → (charter : Option Charter) (rules : Option (List Category)) → pool_by charter rules (record tables { bounds = None }) place round ≡ pool_by charter rules tables place round
  same_by round not None rules = refl
  same_by round not (Some charter) None = refl
  same_by Open not (Some charter) (Some categories) = absurd (not refl)
  same_by (Solved bundle) not (Some charter) (Some categories) = refl
  same_by (Sealed bundle tickets) not (Some charter) (Some categories) = refl
  same_by (Drawn bundle tickets digits dropped) not (Some charter) (Some categories) = refl

  same_if : (found : Option Round) → (found ≡ Some Open → ⊥) → pool_if (record tables { bounds = None }) place found ≡ pool_if tables place found
  same_if None not = refl
  same_if (Some round) not = same_by round (λ is. not (ap Some is)) tables.charter tables.rules

same_pools : (tables : Tables) → IsTables tables → (command : Command) → IsNext tables command → (number : ℕ) → pool_of (record tables { bounds = None }) number ≡ pool_of tables number
same_pools tables keeps command next zero = refl
same_pools tables keeps command next (suc place) = same_if tables place (round_at tables.rounds place) none_open
  where
    none_open : round_at tables.rounds place ≡ Some Open → ⊥
    none_open at =
        let here : next.number ≡ suc place = next.last ∙ sym (open_is_last tables.rounds place keeps.closed at) in
        let drawn : round_at tables.rounds place ≡ Some (Drawn next.bundle next.tickets next.digits next.dropped) = subst (λ n. named_round tables.rounds n ≡ Some (Drawn next.bundle next.tickets next.digits next.dropped)) here next.there in
        cc

pub bounds_are_spent : (tables : Tables) (after : ℕ) (reply : Reply) (number : ℕ) → IsTables tables → Comes tables (NextRound after) (Replies (Some Begun) reply) → pool_of (record tables { bounds = None }) number ≡ pool_of tables number
bounds_are_spent tables after reply number keeps comes = same_pools tables keeps (NextRound after) (changes_fit tables Begun reply keeps (NextRound after) tt comes) number
