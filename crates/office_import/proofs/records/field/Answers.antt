use Rattle.std.proofs.Common.{◌∙◌, ap, sym}
use Rattle.csv.specs.Records.{fields_of}
use Rattle.csv.proofs.RecordFacts.{field-get}
use Rattle.define_imports.specs.Cells.{trim_front, trimmed}
use Rattle.office_import.proofs.CellLemmas.{not_there}
use Rattle.office_import.proofs.records.field.Goals as goal

pub returns-in-Some : goal.returns-in-Some
returns-in-Some c =
    c.trimmed.ensures ∙ ap trimmed (sym (field-get (fields_of c.args.row.now) c.args.place c.in-Some.field.now (sym (rw c.in-Some.is at c.get.ensures.value))))

pub returns-in-None : goal.returns-in-None
unfolding trim_front
returns-in-None c = ap trimmed (sym (not_there (fields_of c.args.row.now) c.args.place (sym (rw c.in-None.is at c.get.ensures.value))))
