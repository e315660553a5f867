use Rattle.std.proofs.Common.{◌≡◌, length}
use Rattle.std.specs.Prelude.{IfSome}
use Rattle.prove_stages.specs.Shapes.{IsFinder, IsCompositionMix}
use Rattle.prove_limits.specs.Budgets.{SpendsOn}
use Rattle.prove_stages.proofs.columned.stage.Given as goal

abbrev pub invariant-levels : goal.invariant-levels
invariant-levels l = record {
  mix : IsCompositionMix (length l.program.firsts) l.mix;
  finder : IsFinder (length l.program.firsts) l.finder;
  spends : SpendsOn l.fn.budget l.budget;
  last : IfSome l.last (λ last. length last.0.items ≡ length l.program.firsts);
}

abbrev pub decreases-levels : goal.decreases-levels
decreases-levels l = l.budget.nodes
