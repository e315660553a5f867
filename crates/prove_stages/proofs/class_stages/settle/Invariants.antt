use Rattle.std.proofs.Common.{◌≡◌, length}
use Rattle.prove_stages.proofs.class_stages.settle.Given as goal

abbrev pub invariant-loop-column : goal.invariant-loop-column
invariant-loop-column l = length l.chances.chances ≡ length l.initial.chances.chances
