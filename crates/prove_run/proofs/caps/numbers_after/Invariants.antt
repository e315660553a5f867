use Rattle.std.proofs.Common.{◌≡◌, length}
use Rattle.prove_run.proofs.caps.numbers_after.Given as goal

abbrev pub invariant-loop-row : goal.invariant-loop-row
invariant-loop-row l = length l.numbers.items ≡ l.row
