-- What a search for a point of whole numbers finds, what it spends, and why it stops; and quotients rounded up.
use Rattle.std.specs.Prelude.{◌≡◌, ℕ, ◌+◌, ◌<◌, ◌≤◌, ◌^◌, nat_lt, if◌then◌else◌, Result, List, length, slice_index_or, ℤ, pos, ◌≤ℤ◌, unsigned_abs}
use Rattle.std.specs.Int.{int_div_euclid, int_rem_euclid}
use Rattle.prove_table.specs.Sizes.{TableSizes}
use Rattle.prove_limits.specs.Budgets.{Left}
use Rattle.prove_limits.specs.declared.passes.Op.TheVariants.{Add}
use Rattle.prove_limits.specs.Spans.{Ends}
use Rattle.prove_limits.specs.declared.stops.Limit.TheVariants.{Pivots, Nodes, Lottery}
use Rattle.prove_limits.specs.declared.stops.ProveStop.{ProveStop}
use Rattle.prove_limits.specs.declared.stops.ProveStop.TheVariants.{Wide, BeyondWidth, Spent, Lost, OutOfMemory}
use Rattle.prove_limits.specs.Widths.{narrowed}
use Rattle.prove_branching.specs.declared.searching.Found.{Found}
use Rattle.prove_branching.specs.declared.searching.Found.TheVariants.{Point, Nothing, Doubt}

-- the first `count` numbers lie in their spans
abbrev pub LieWithin : List Ends → List ℤ → ℕ → Type 0
LieWithin spans point count = (k : ℕ) (d : Ends) (e : ℤ) → k < count →
    ((slice_index_or spans k d).least ≤ℤ slice_index_or point k e) × (slice_index_or point k e ≤ℤ (slice_index_or spans k d).greatest)

-- the point has a number for each span, and the number lies in its span
pub record IsWithin (spans : List Ends) (point : List ℤ) : Type 0 where
  pub one_each : length point ≡ length spans
  pub inside : LieWithin spans point (length spans)

-- a point that is found lies in the spans; a search that ends in doubt spent `most + 1` nodes, and didn't look at the last of them
abbrev pub IsFound : List Ends → ℕ → Left → Left → Found → Type 0
IsFound spans most old new (Point point) = IsWithin spans point.items
IsFound spans most old new Nothing = Unit {0}
IsFound spans most old new Doubt = old.nodes ≡ new.nodes + (most + 1)

-- the stops of a search: those of a run of its table, `Spent Nodes` if no node is left, and `Lost` if what the table gave can't be right
abbrev pub SearchStops : TableSizes → Left → ProveStop → Type 0
SearchStops table left (Wide pass) = Unit {0}
SearchStops table left BeyondWidth = table.width < 2 ^ 62
SearchStops table left (Spent Pivots) = left.pivots ≡ 0
SearchStops table left (Spent Nodes) = left.nodes ≡ 0
SearchStops table left (Spent Lottery) = ⊥
SearchStops table left Lost = Unit {0}
SearchStops table left OutOfMemory = Unit {0}

-- a quotient by a number above 0, rounded up: the quotient rounded down, and 1 more if there is a remainder; or the stop if its absolute
-- value is above 2^62
abbrev pub rounded_up : ℤ → ℤ → Result ℤ ProveStop
rounded_up x y = narrowed Add (int_div_euclid x y) (if nat_lt 0 (unsigned_abs (int_rem_euclid x y)) then pos 1 else pos 0)
