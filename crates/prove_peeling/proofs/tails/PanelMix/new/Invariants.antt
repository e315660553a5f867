use Rattle.std.proofs.Common.{◌≡◌, length}
use Rattle.prove_peeling.proofs.tails.PanelMix.new.Given as goal

abbrev pub invariant-loop-i : goal.invariant-loop-i
invariant-loop-i l = length l.rows.items ≡ length l.moving.items

abbrev pub invariant-rows : goal.invariant-rows
invariant-rows l = (l.table.columns ≡ 0) × (l.table.rows ≡ l.counter)
