use Rattle.std.proofs.Common.{◌≡◌, take}
use Rattle.define_searches.specs.Classes.{bounds_of}
use Rattle.check_search.proofs.grouping.all_bounds.Given as goal

abbrev pub invariant-loop-category : goal.invariant-loop-category
invariant-loop-category l = l.bounds.items ≡ bounds_of (take l.category-index l.categories)
