use Rattle.std.proofs.Common.{[]}
use Rattle.define_searches.specs.Beside.{FirstHave}
use Rattle.check_search.specs.Weights.{Weighs}
use Rattle.check_search.proofs.weighing.all_weights.Given as goal

abbrev pub invariant-loop-row : goal.invariant-loop-row
invariant-loop-row l = FirstHave (λ row here. Weighs l.classes row [] here) l.closed l.row-index l.weights.items
