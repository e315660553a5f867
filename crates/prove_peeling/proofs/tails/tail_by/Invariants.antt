use Rattle.prove_table.specs.Sizes.{SameSizes}
use Rattle.prove_peeling.specs.Shapes.{IsPanelMix}
use Rattle.prove_limits.specs.Budgets.{SpendsOn}
use Rattle.prove_peeling.proofs.tails.tail_by.Given as goal

abbrev pub invariant-steps : goal.invariant-steps
invariant-steps l = record {
  mix : IsPanelMix l.mix;
  sizes : SameSizes l.fn.table l.table;
  spends : SpendsOn l.fn.budget l.budget;
}
