use Rattle.std.proofs.Common.{◌≡◌, length}
use Rattle.prove_stages.proofs.tables.row_spans.Given as goal

abbrev pub invariant-loop-row : goal.invariant-loop-row
invariant-loop-row l = length l.spans.items ≡ l.row
