use Rattle.std.proofs.Common.{◌≡◌, ◌<◌, ℕ, false, [], get_or}
use Rattle.csv.specs.Records.{fields_of}
use Rattle.define_imports.specs.Cells.{is_named}
use Rattle.office_import.proofs.records.column.Given as goal

abbrev pub invariant-loop-place : goal.invariant-loop-place
invariant-loop-place l = (k : ℕ) → k < l.place → is_named l.name (get_or (fields_of l.header) k []) ≡ false
