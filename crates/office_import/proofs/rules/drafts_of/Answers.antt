use Rattle.std.proofs.Common.{◌+◌, [], map}
use Rattle.csv.specs.Records.{fields_of}
use Rattle.define_imports.specs.Cells.{read_from}
use Rattle.define_imports.specs.Rules.{after_rule, rule_kind}
use Rattle.define_imports.proofs.RecordByRecord.{stops_at}
use Rattle.office_import.proofs.StopLemmas.{record_stops}
use Rattle.office_import.proofs.rules.drafts_of.Goals as goal

pub returns-in-Err-clause-fault : goal.returns-in-Err-clause-fault
returns-in-Err-clause-fault c =
    let header = fields_of c.args.header.now in let rows = c.args.rows.now in let i = c.loop-index.index in
    let row = c.index-rows-index.result in
    let said = read_from (rule_kind header) (after_rule header) 2 [] (map fields_of rows) in
    record_stops (Unit {0}) said (rule_kind header c.loop-index.drafts.items (fields_of row)) (i + 2)
    (stops_at (rule_kind header) (after_rule header) fields_of rows (i + 2) i c.loop-index.drafts.items said c.loop-index.invariant row c.loop-index-test.true c.index-rows-index.is)
    c.in-Err.stop c.in-Err.ensures.kind c.stop_at.result c.stop_at.ensures
