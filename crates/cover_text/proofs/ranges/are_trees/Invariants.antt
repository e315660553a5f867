use Rattle.std.proofs.Common.{◌≡◌, ℕ, ◌+◌, ◌<◌, true, [], get_or}
use Rattle.std.specs.List.{list_all}
use Rattle.define_covers.specs.CoverRanges.{is_front_line}
use Rattle.cover_text.proofs.ranges.are_trees.Given as goal

-- the lines of the trees so far are in their ranges
abbrev pub invariant-loop-i : goal.invariant-loop-i
invariant-loop-i l = (k : ℕ) → k < l.i → list_all (is_front_line l.pool (k + 1)) (get_or l.trees k []) ≡ true
