use Rattle.prove_limits.specs.Budgets.{SpendsOn}
use Rattle.prove_stages.proofs.searches.CompositionSearch.beating_by.Given as goal

abbrev pub invariant-rows : goal.invariant-rows
invariant-rows l = SpendsOn l.fn.budget l.budget
