use Rattle.std.proofs.Common.{length}
use Rattle.prove_stages.specs.Shapes.{IsFinder, IsCompositionMix}
use Rattle.prove_limits.specs.Budgets.{SpendsOn}
use Rattle.prove_stages.proofs.columned.raised_cap.Given as goal

abbrev pub invariant-loop-need : goal.invariant-loop-need
invariant-loop-need l = record {
  mix : IsCompositionMix (length l.weights) l.mix;
  finder : IsFinder (length l.weights) l.finder;
  spends : SpendsOn l.fn.budget l.budget;
}

abbrev pub decreases-loop-need : goal.decreases-loop-need
decreases-loop-need l = l.budget.nodes
