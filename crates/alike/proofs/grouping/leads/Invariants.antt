use Rattle.std.proofs.Common.{◌≡◌, false}
use Rattle.std.specs.List.{list_any, range_with_len}
use Rattle.define_searches.specs.Classes.{are_alike as alike}
use Rattle.alike.proofs.grouping.leads.Given as goal

abbrev pub invariant-loop-j : goal.invariant-loop-j
invariant-loop-j l = list_any (λ j. alike l.pool j l.i) (range_with_len 0 l.j) ≡ false
