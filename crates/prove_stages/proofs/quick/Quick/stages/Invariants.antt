use Rattle.prove_limits.specs.Budgets.{SpendsOn}
use Rattle.prove_stages.proofs.quick.Quick.stages.Given as goal

abbrev pub invariant-stages : goal.invariant-stages
invariant-stages l = SpendsOn l.fn.budget l.budget
