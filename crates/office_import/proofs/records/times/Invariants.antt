use Rattle.std.proofs.Common.{◌≡◌, ◌≤◌, take}
use Rattle.csv.specs.Records.{fields_of}
use Rattle.define_imports.specs.Cells.{times}
use Rattle.office_import.proofs.records.times.Given as goal

abbrev pub invariant-loop-place : goal.invariant-loop-place
invariant-loop-place l = record {
  count : l.number ≡ times (take l.place (fields_of l.header)) l.name;
  few : l.number ≤ l.place;
}
