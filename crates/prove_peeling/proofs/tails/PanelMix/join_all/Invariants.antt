use Rattle.prove_peeling.specs.Shapes.{IsPanelMix}
use Rattle.prove_peeling.proofs.tails.PanelMix.join_all.Given as goal

abbrev pub invariant-loop-number : goal.invariant-loop-number
invariant-loop-number l = IsPanelMix l.self
