use Rattle.prove_limits.specs.Budgets.{SpendsOn}
use Rattle.prove_mixes.proofs.masters.Master.solve.Given as goal

abbrev pub invariant-changes : goal.invariant-changes
invariant-changes l = SpendsOn l.fn.budget l.budget
