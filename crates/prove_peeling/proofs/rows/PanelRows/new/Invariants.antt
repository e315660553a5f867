use Rattle.std.proofs.Common.{◌≡◌, ◌+◌, length}
use Rattle.prove_peeling.proofs.rows.PanelRows.new.Given as goal

abbrev pub invariant-loop-number : goal.invariant-loop-number
invariant-loop-number l = length l.rows.items ≡ l.number

abbrev pub invariant-loop-number-2 : goal.invariant-loop-number-2
invariant-loop-number-2 l = length l.rows.items ≡ length l.program.rows + l.number
