use Rattle.prove_limits.specs.Budgets.{SpendsOn}
use Rattle.prove_stages.proofs.searches.CompositionSearch.beating.Given as goal

abbrev pub invariant-tries : goal.invariant-tries
invariant-tries l = SpendsOn l.fn.budget l.budget
