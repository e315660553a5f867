use Rattle.std.proofs.Common.{◌≡◌, length}
use Rattle.prove_peeling.proofs.tails.PanelMix.wanted.Given as goal

abbrev pub invariant-loop-row : goal.invariant-loop-row
invariant-loop-row l = length l.wishes.items ≡ length l.remainder.parts.items
