use Rattle.std.proofs.Common.{length}
use Rattle.prove_stages.specs.Shapes.{IsCompositionMix}
use Rattle.prove_stages.proofs.mixes.CompositionMix.close.Given as goal

abbrev pub invariant-loop-number : goal.invariant-loop-number
invariant-loop-number l = IsCompositionMix (length l.weights) l.self
