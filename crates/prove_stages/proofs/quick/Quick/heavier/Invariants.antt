use Rattle.prove_limits.specs.Budgets.{SpendsOn}
use Rattle.prove_stages.proofs.quick.Quick.heavier.Given as goal

abbrev pub invariant-roundings : goal.invariant-roundings
invariant-roundings l = SpendsOn l.fn.budget l.budget
