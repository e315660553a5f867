use Rattle.std.proofs.Common.{◌≡◌, ◌+◌, [], drop, map}
use Rattle.csv.specs.Records.{fields_of}
use Rattle.define_imports.specs.Cells.{read_from}
use Rattle.define_imports.specs.Registers.{after_row, row_kind}
use Rattle.office_import.proofs.registers.rows_after.Given as goal

-- reading the records from `index` on, with `rows` as what was read before, returns what reading all records returns
abbrev pub invariant-loop-index : goal.invariant-loop-index
invariant-loop-index l = read_from (row_kind l.categories (fields_of l.header)) (after_row l.categories (fields_of l.header)) (l.index + 2) l.rows (map fields_of (drop l.index l.records))
    ≡ read_from (row_kind l.categories (fields_of l.header)) (after_row l.categories (fields_of l.header)) 2 [] (map fields_of l.records)
