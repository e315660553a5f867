use Rattle.std.proofs.Common.{◌≡◌, length}
use Rattle.prove_peeling.proofs.faces.Face.of.Given as goal

abbrev pub invariant-loop-column : goal.invariant-loop-column
invariant-loop-column l = length l.columns.items ≡ l.column

abbrev pub invariant-loop-row : goal.invariant-loop-row
invariant-loop-row l = length l.spans.items ≡ l.row
