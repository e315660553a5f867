-- What stays of a round: its bundle, the categories of its pool with their bounds, the number of tickets that was kept with its seal, and
-- its draw.
use Rattle.std.specs.Prelude.{◌≡◌, ℕ, ◌+◌, ◌==◌, Bool, true, false, IsTrue, IsFalse, List, Option, Some, Ok}
use Rattle.std.specs.List.{AllByRecursion}
use Rattle.define_pools.specs.Pool.{Category, Pool}
use Rattle.define_bundles.specs.BundleText.{Bundle}
use Rattle.define_offices.specs.Tables.{Round, Open, Solved, Sealed, Drawn, Tables, bundle_of, named_round, tickets_of}
use Rattle.define_offices.specs.Commands.{Command, SetRules, NextRound, SetBounds, Reopen, Change, Begun, Reply, Replies}
use Rattle.define_offices.specs.Facts.{IsCommand, IsTables}
use Rattle.define_offices.specs.Pools.{pool_of}
use Rattle.define_offices.specs.Steps.{Comes, LeadThrough, applied, apply}

-- ---- bundles

-- the round with `number` has the bundle `bundle`
pub record HasBundle (tables : Tables) (number : ℕ) (bundle : Bundle) : Type 0 where
  pub round : Round
  pub there : named_round tables.rounds number ≡ Some round
  pub has : bundle_of round ≡ Some bundle

-- a round that has a bundle has the same bundle after any commands
abbrev pub BundlesStay : Type 0
BundlesStay = (before : Tables) (commands : List Command) (after : Tables) (number : ℕ) (bundle : Bundle) → LeadThrough before commands after → HasBundle before number bundle → HasBundle after number bundle

-- if the facts hold of the tables, the pool of a round that has a bundle is the pool of the bundle
abbrev pub BundlesHavePools : Type 0
BundlesHavePools = (tables : Tables) (number : ℕ) (bundle : Bundle) → IsTables tables → HasBundle tables number bundle → pool_of tables number ≡ Ok bundle.pool

-- ---- bounds

-- the round with `number` has a pool, and `categories` are this pool's categories with their bounds
pub record HasCategories (tables : Tables) (number : ℕ) (categories : List Category) : Type 0 where
  pub pool : Pool
  pub is : pool_of tables number ≡ Ok pool
  pub same : pool.categories ≡ categories

-- the command may change the categories of the round with `number`: rules may change those of round 1, bounds those of the round that they
-- are for, and a round that is taken away has no pool
abbrev pub may_change : Command → ℕ → Bool
may_change (SetRules rules) number = number == 1
may_change (SetBounds round bounds) number = round == number
may_change (Reopen round) number = round == number
may_change command number = false

-- the pool of a round has the same categories, with the same bounds, after any commands that are within their limits and that may not
-- change them
abbrev pub BoundsStay : Type 0
BoundsStay = (before : Tables) (commands : List Command) (after : Tables) (number : ℕ) (categories : List Category) → IsTables before → AllByRecursion IsCommand commands →
    AllByRecursion (λ command. IsFalse (may_change command number)) commands → LeadThrough before commands after → HasCategories before number categories → HasCategories after number categories

-- if bounds for a round get a reply, its pool has these bounds, and has them still after any commands that are within their limits and that
-- may not change them
abbrev pub BoundsLast : Type 0
BoundsLast = (tables : Tables) (number : ℕ) (bounds : List Category) (change : Option Change) (reply : Reply) (commands : List Command) (after : Tables) → IsTables tables → IsCommand (SetBounds number bounds) →
    Comes tables (SetBounds number bounds) (Replies change reply) → AllByRecursion IsCommand commands → AllByRecursion (λ command. IsFalse (may_change command number)) commands →
    LeadThrough (applied tables change) commands after → HasCategories after number bounds

-- when the next round begins, its pool has the categories, with their bounds, of the pool of the round before
abbrev pub BoundsGoOn : Type 0
BoundsGoOn = (tables : Tables) (number : ℕ) (reply : Reply) → IsTables tables → Comes tables (NextRound number) (Replies (Some Begun) reply) →
    (categories : List Category) × (HasCategories tables number categories × HasCategories (apply tables Begun) (number + 1) categories)

-- ---- tickets

-- the round's seal was told; it may be drawn since
abbrev pub is_sealed : Round → Bool
is_sealed Open = false
is_sealed (Solved bundle) = false
is_sealed (Sealed bundle tickets) = true
is_sealed (Drawn bundle tickets digits dropped) = true

-- the seal of the round with `number` was told, and `tickets` is the round number of tickets that was kept with it, if one was
pub record IsSealedWith (tables : Tables) (number : ℕ) (tickets : Option ℕ) : Type 0 where
  pub round : Round
  pub there : named_round tables.rounds number ≡ Some round
  pub sealed : IsTrue (is_sealed round)
  pub is : tickets_of round ≡ tickets

-- what was kept with a seal stays, after any commands
abbrev pub TicketsStay : Type 0
TicketsStay = (before : Tables) (commands : List Command) (after : Tables) (number : ℕ) (tickets : Option ℕ) → LeadThrough before commands after → IsSealedWith before number tickets → IsSealedWith after number tickets

-- ---- draws

-- the round with `number` has the bundle `bundle`, was sealed with `tickets` and drawn by `digits`. Its panel is
-- `drawn_of bundle tickets digits`
pub record IsDrawnBy (tables : Tables) (number : ℕ) (bundle : Bundle) (tickets : Option ℕ) (digits : List ℕ) : Type 0 where
  pub dropped : List (List ℕ)
  pub there : named_round tables.rounds number ≡ Some (Drawn bundle tickets digits dropped)

-- what was drawn stays, after any commands
abbrev pub DrawsStay : Type 0
DrawsStay = (before : Tables) (commands : List Command) (after : Tables) (number : ℕ) (bundle : Bundle) (tickets : Option ℕ) (digits : List ℕ) → LeadThrough before commands after →
    IsDrawnBy before number bundle tickets digits → IsDrawnBy after number bundle tickets digits
