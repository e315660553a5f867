use Rattle.prove_limits.specs.Budgets.{SpendsOn}
use Rattle.prove_run.specs.Shapes.{IsCapSearch}
use Rattle.prove_run.proofs.trees.trees_by.Given as goal

abbrev pub invariant-loop-stage : goal.invariant-loop-stage
invariant-loop-stage l = IsCapSearch l.search × SpendsOn l.fn.budget l.budget
