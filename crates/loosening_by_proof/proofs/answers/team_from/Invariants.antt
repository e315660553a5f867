use Rattle.prove_limits.specs.Budgets.{SpendsOn}
use Rattle.loosening_by_proof.specs.Searches.{IsSearch}
use Rattle.loosening_by_proof.proofs.answers.team_from.Given as goal

abbrev pub invariant-costs : goal.invariant-costs
invariant-costs l = record {
  search : IsSearch l.search;
  spends : SpendsOn l.fn.budget l.budget;
}

abbrev pub decreases-costs : goal.decreases-costs
decreases-costs l = l.budget.nodes
