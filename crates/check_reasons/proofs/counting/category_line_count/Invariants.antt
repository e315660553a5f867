use Rattle.std.proofs.Common.{◌≡◌, length, take}
use Rattle.std.specs.List.{flat_map}
use Rattle.define_bundles.specs.PoolText.{category_lines}
use Rattle.check_reasons.proofs.counting.category_line_count.Given as goal

-- `count` is the number of lines of the categories so far
abbrev pub invariant-loop-category : goal.invariant-loop-category
invariant-loop-category l = l.count ≡ length (flat_map category_lines (take l.category-index l.categories))
