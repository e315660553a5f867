use Rattle.define_searches.specs.Beside.{FirstHave}
use Rattle.check_search.specs.Weights.{IsSummed}
use Rattle.check_search.proofs.greatest.all_sums.Given as goal

abbrev pub invariant-loop-row : goal.invariant-loop-row
invariant-loop-row l = FirstHave (λ row here. IsSummed l.classes row here) l.closed l.row-index l.sums.items
