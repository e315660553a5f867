use Rattle.prove_limits.specs.Budgets.{SpendsOn}
use Rattle.command_proofs.proofs.settling.proved_or_spent.Given as goal

abbrev pub invariant-attempts : goal.invariant-attempts
invariant-attempts l = SpendsOn l.fn.trees l.trees

abbrev pub decreases-attempts : goal.decreases-attempts
decreases-attempts l = l.trees.nodes
