use Rattle.prove_limits.specs.Budgets.{SpendsOn}
use Rattle.prove_stages.proofs.quick.cover.Given as goal

abbrev pub invariant-searches : goal.invariant-searches
invariant-searches l = SpendsOn l.fn.budget l.budget
