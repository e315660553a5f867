use Rattle.std.proofs.Common.{◌≡◌, not}
use Rattle.std.specs.List.{filter, list_any, range_with_len}
use Rattle.check_search.specs.Likeness.{is_alike as alike}
use Rattle.check_search.proofs.grouping.leaders.Given as goal

abbrev pub invariant-loop-i : goal.invariant-loop-i
invariant-loop-i l = l.found.items ≡ filter (λ i. not (list_any (λ j. alike l.likeness j i) (range_with_len 0 i))) (range_with_len 0 l.i)
