use Rattle.std.proofs.Common.{◌≡◌, length}
use Rattle.prove_stages.proofs.refuted.shown_by.Given as goal

abbrev pub invariant-loop-row : goal.invariant-loop-row
invariant-loop-row l = length l.weights.items ≡ length l.program.firsts
