-- Values that rule out a count. The contracts of src/tallies.rt cite it.
use Rattle.std.specs.Prelude.{◌≡◌, ℕ, ◌<◌, false, List, length, slice_index}
use Rattle.define_searches.specs.declared.Bounds.{Bounds}
use Rattle.define_searches.specs.Tallies.{HasBound, reaches}

-- if `count` more members who have `values` are taken, the bounds of one of these values can't be met any more
abbrev pub OneFails : List (List Bounds) → List ℕ → List ℕ → List ℕ → ℕ → Type 0
OneFails bounds held later values count =
    (c : ℕ) × (bound : Bounds) × (c < length values) × HasBound bounds c (slice_index values c) bound × (reaches bound held later count c (slice_index values c) ≡ false)
