use Rattle.std.proofs.Common.{◌≡◌, ◌+◌, length}
use Rattle.prove_table.specs.Sizes.{SameSizes}
use Rattle.prove_limits.specs.Budgets.{SpendsOn}
use Rattle.prove_branching.proofs.searching.search.Given as goal

abbrev pub invariant-nodes : goal.invariant-nodes
invariant-nodes l = record {
  sizes : SameSizes l.fn.table l.table;
  spends : SpendsOn l.fn.budget l.budget;
  path : l.path ≡ length l.columns;
  left : l.fn.budget.nodes + l.left ≡ l.budget.nodes + l.most;
}

abbrev pub decreases-nodes : goal.decreases-nodes
decreases-nodes l = l.budget.nodes
