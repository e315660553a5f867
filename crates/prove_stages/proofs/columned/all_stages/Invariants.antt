use Rattle.std.proofs.Common.{◌≡◌, length}
use Rattle.prove_stages.specs.Shapes.{IsFinder, IsCompositionMix}
use Rattle.prove_limits.specs.Budgets.{SpendsOn}
use Rattle.prove_stages.proofs.columned.all_stages.Given as goal

abbrev pub invariant-loop : goal.invariant-loop
invariant-loop l = record {
  mix : IsCompositionMix (length l.program.firsts) l.mix;
  finder : IsFinder (length l.program.firsts) l.finder;
  spends : SpendsOn l.fn.budget l.budget;
}
