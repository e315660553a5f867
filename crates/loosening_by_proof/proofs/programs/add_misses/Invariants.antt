use Rattle.loosening_by_proof.specs.Searches.{AreSizes}
use Rattle.loosening_by_proof.proofs.programs.add_misses.Given as goal

-- the table has a column and a row for each span
abbrev pub invariant-loop-row : goal.invariant-loop-row
invariant-loop-row l = AreSizes l.table l.columns.items l.rows.items
