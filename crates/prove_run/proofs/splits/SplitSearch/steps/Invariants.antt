use Rattle.prove_limits.specs.Budgets.{SpendsOn}
use Rattle.prove_run.proofs.splits.SplitSearch.steps.Given as goal

abbrev pub invariant-nodes : goal.invariant-nodes
invariant-nodes l = SpendsOn l.fn.trees l.trees

abbrev pub decreases-nodes : goal.decreases-nodes
decreases-nodes l = l.trees.nodes
