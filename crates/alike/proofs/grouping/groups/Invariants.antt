use Rattle.std.proofs.Common.{◌≡◌, map, not}
use Rattle.std.specs.List.{filter, list_any, range_with_len}
use Rattle.define_searches.specs.Classes.{are_alike as alike, class_by}
use Rattle.alike.proofs.grouping.groups.Given as goal

abbrev pub invariant-loop-i : goal.invariant-loop-i
invariant-loop-i l = l.found.items ≡ map (class_by (alike l.pool) l.pool) (filter (λ i. not (list_any (λ j. alike l.pool j i) (range_with_len 0 i))) (range_with_len 0 l.i))
