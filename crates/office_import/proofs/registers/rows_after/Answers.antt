use Rattle.std.proofs.Common.{◌+◌, [], map}
use Rattle.csv.specs.Records.{fields_of}
use Rattle.define_offices.specs.Commands.{Given}
use Rattle.define_imports.specs.Cells.{read_from}
use Rattle.define_imports.specs.Registers.{after_row, row_kind}
use Rattle.define_imports.proofs.RecordByRecord.{stops_at}
use Rattle.office_import.proofs.StopLemmas.{record_stops}
use Rattle.office_import.proofs.registers.rows_after.Goals as goal

pub returns-in-Err : goal.returns-in-Err
returns-in-Err c =
    let categories = c.args.categories.now in let header = fields_of c.args.header.now in let records = c.args.records.now in let i = c.loop-index.index in
    let row = c.index-records-index.result in
    let said = read_from (row_kind categories header) (after_row categories header) 2 [] (map fields_of records) in
    record_stops Given said (row_kind categories header c.loop-index.rows (fields_of row)) (i + 2)
    (stops_at (row_kind categories header) (after_row categories header) fields_of records (i + 2) i c.loop-index.rows said c.loop-index.invariant row c.loop-index-test.true c.index-records-index.is)
    c.in-Err.stop c.in-Err.ensures.kind c.stop_at.result c.stop_at.ensures
