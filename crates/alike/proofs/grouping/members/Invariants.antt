use Rattle.std.proofs.Common.{◌≡◌}
use Rattle.std.specs.List.{filter, range_with_len}
use Rattle.define_searches.specs.Classes.{are_alike as alike}
use Rattle.alike.proofs.grouping.members.Given as goal

abbrev pub invariant-loop-i : goal.invariant-loop-i
invariant-loop-i l = l.found.items ≡ filter (alike l.pool l.leader) (range_with_len 0 l.i)
