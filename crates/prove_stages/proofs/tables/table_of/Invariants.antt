use Rattle.std.proofs.Common.{◌≡◌, length}
use Rattle.prove_stages.proofs.tables.table_of.Given as goal

abbrev pub invariant-loop-row : goal.invariant-loop-row
invariant-loop-row l = (l.table.rows ≡ l.row) × (l.table.columns ≡ length l.program.firsts)
