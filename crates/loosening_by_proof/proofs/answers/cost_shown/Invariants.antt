use Rattle.std.proofs.Common.{Some}
use Rattle.define_proofs.specs.Leaves.{standings}
use Rattle.define_quotas.specs.CostBounds.{CostsAt}
use Rattle.prove_limits.specs.Budgets.{SpendsOn}
use Rattle.loosening_by_proof.specs.Searches.{IsSearch}
use Rattle.loosening_by_proof.proofs.answers.cost_shown.Given as goal

-- each team costs at least what was shown so far
abbrev pub invariant-leaves : goal.invariant-leaves
invariant-leaves l = record {
  costs : CostsAt l.pool (standings l.pool) (Some l.least);
  search : IsSearch l.search;
  spends : SpendsOn l.fn.budget l.budget;
}

abbrev pub decreases-leaves : goal.decreases-leaves
decreases-leaves l = l.budget.nodes
