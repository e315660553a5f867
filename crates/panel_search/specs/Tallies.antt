-- Bounds that are so small that a search's sums with them fit 64 bits. The contracts of `tallies` cite it.
use Rattle.std.specs.Prelude.{ℕ, ◌≤◌, ◌<◌, List, length}
use Rattle.define_searches.specs.declared.Bounds.{Bounds}
use Rattle.define_searches.specs.Tallies.{HasBound}

-- each upper bound is at most 999
abbrev pub AreSmallBounds : List (List Bounds) → Type 0
AreSmallBounds bounds = (c v : ℕ) (bound : Bounds) → c < length bounds → HasBound bounds c v bound → bound.upper ≤ 999
