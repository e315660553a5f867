use Rattle.prove_limits.specs.Budgets.{SpendsOn}
use Rattle.prove_stages.proofs.quick.Quick.close_by_scales.Given as goal

abbrev pub invariant-scales : goal.invariant-scales
invariant-scales l = SpendsOn l.fn.budget l.budget
