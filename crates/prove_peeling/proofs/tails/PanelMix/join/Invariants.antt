use Rattle.std.proofs.Common.{◌≡◌, length}
use Rattle.prove_peeling.proofs.tails.PanelMix.join.Given as goal

abbrev pub invariant-loop-i : goal.invariant-loop-i
invariant-loop-i l = length l.column.items ≡ l.i
