use Rattle.std.proofs.Common.{◌≡◌, length}
use Rattle.prove_peeling.proofs.rows.weights_of.Given as goal

abbrev pub invariant-loop-i : goal.invariant-loop-i
invariant-loop-i l = length l.own.items ≡ l.i
