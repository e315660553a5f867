use Rattle.prove_limits.specs.Budgets.{SpendsOn}
use Rattle.prove_stages.proofs.quick.Quick.stage.Given as goal

abbrev pub invariant-steps : goal.invariant-steps
invariant-steps l = SpendsOn l.fn.budget l.budget
