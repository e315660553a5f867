use Rattle.std.proofs.Common.{◌≡◌, length}
use Rattle.loosening_by_proof.proofs.programs.sum_of_misses.Given as goal

abbrev pub invariant-loop-column : goal.invariant-loop-column
invariant-loop-column l = length l.sum.items ≡ l.columns
