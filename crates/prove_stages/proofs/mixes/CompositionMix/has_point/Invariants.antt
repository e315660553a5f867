use Rattle.std.proofs.Common.{◌≡◌, length}
use Rattle.prove_stages.proofs.mixes.CompositionMix.has_point.Given as goal

abbrev pub invariant-loop-number : goal.invariant-loop-number
invariant-loop-number l = length l.columns.items ≡ l.number
