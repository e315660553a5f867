use Rattle.prove_limits.specs.Budgets.{SpendsOn}
use Rattle.prove_peeling.proofs.class_mixes.ClassMix.settle.Given as goal

abbrev pub invariant-asides : goal.invariant-asides
invariant-asides l = SpendsOn l.fn.budget l.budget
