use Rattle.std.proofs.Common.{◌≡◌, length}
use Rattle.prove_table.specs.Sizes.{SameSizes}
use Rattle.prove_limits.specs.Budgets.{SpendsOn}
use Rattle.prove_peeling.proofs.peels.peel.Given as goal

abbrev pub invariant-panels : goal.invariant-panels
invariant-panels l = record {
  sizes : SameSizes l.fn.table l.table;
  spends : SpendsOn l.fn.budget l.budget;
  parts : length l.remainder.parts.items ≡ length l.fn.remainder.parts.items;
}

abbrev pub decreases-panels : goal.decreases-panels
decreases-panels l = l.budget.nodes
