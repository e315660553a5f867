use Rattle.std.proofs.Common.{◌≡◌, length, sum_by, take}
use Rattle.cover_text.proofs.ranges.value_count.Given as goal

-- `count` is how many values the categories so far have
abbrev pub invariant-loop-category : goal.invariant-loop-category
invariant-loop-category l = l.count ≡ sum_by (λ category. length category.values) (take l.category-index l.categories)
