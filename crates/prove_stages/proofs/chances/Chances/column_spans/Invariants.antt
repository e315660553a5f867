use Rattle.std.proofs.Common.{◌≡◌, length}
use Rattle.prove_stages.proofs.chances.Chances.column_spans.Given as goal

abbrev pub invariant-loop-column : goal.invariant-loop-column
invariant-loop-column l = length l.spans.items ≡ l.column
