use Rattle.std.proofs.Common.{◌≡◌, sym, arith, rules, true, get_or, []}
use Rattle.csv.specs.Records.{fields_of}
use Rattle.define_imports.specs.Cells.{is_named}
use Rattle.office_import.proofs.CellLemmas.{first_place, no_place}
use Rattle.office_import.proofs.records.column.Goals as goal

pub returns-then-is_named : goal.returns-then-is_named
returns-then-is_named c =
    let good : is_named c.args.name.now (get_or (fields_of c.args.header.now) c.loop-place.place []) ≡ true = search rules in
    sym (first_place (is_named c.args.name.now) (fields_of c.args.header.now) c.loop-place.place [] (omega arith) good c.loop-place.invariant)

pub returns : goal.returns
returns c = sym (no_place (is_named c.args.name.now) (fields_of c.args.header.now) [] (λ j below. c.loop-place.invariant j (omega arith)))
