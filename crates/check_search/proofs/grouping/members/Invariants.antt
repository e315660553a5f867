use Rattle.std.proofs.Common.{◌≡◌}
use Rattle.std.specs.List.{filter, range_with_len}
use Rattle.check_search.specs.Likeness.{is_alike as alike}
use Rattle.check_search.proofs.grouping.members.Given as goal

abbrev pub invariant-loop-i : goal.invariant-loop-i
invariant-loop-i l = l.found.items ≡ filter (alike l.likeness l.leader) (range_with_len 0 l.i)
