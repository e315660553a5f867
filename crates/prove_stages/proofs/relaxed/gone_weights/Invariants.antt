use Rattle.std.proofs.Common.{◌≡◌, length}
use Rattle.prove_stages.proofs.relaxed.gone_weights.Given as goal

abbrev pub invariant-loop-column : goal.invariant-loop-column
invariant-loop-column l = length l.weights.items ≡ l.column
