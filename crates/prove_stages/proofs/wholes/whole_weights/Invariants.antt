use Rattle.std.proofs.Common.{◌≤ℤ◌, pos}
use Rattle.prove_stages.proofs.wholes.whole_weights.Given as goal

abbrev pub invariant-weights : goal.invariant-weights
invariant-weights l = pos 0 ≤ℤ l.divisor
