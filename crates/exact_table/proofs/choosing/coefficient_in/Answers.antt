use Rattle.std.proofs.Common.{◌≡◌, [], pos, sym, ap, ◌∙◌, rules, FitsSigned}
use Rattle.std.specs.Int.{w128}
use Rattle.std.proofs.lemmas.Int.{to_z-of_z}
use Rattle.std.proofs.lemmas.List.{get_or_read}
use Rattle.define_rows.specs.Table.{coefficient, coefficient_at, row_at}
use Rattle.exact_table.specs.Parts.{with_rows}
use Rattle.exact_table.proofs.PartLaws.{coefficient-with_rows}
use Rattle.exact_table.proofs.choosing.coefficient_in.Goals as goal

pub returns-clause-value : goal.returns-clause-value
returns-clause-value c =
    let f : FitsSigned w128 c.coefficient.result = search rules in
    let row : c.index-rows-row.result ≡ row_at (with_rows c.args.frame.now c.args.rows.now []) c.args.row = get_or_read c.args.rows.now c.args.row c.index-rows-row.result c.requires.row c.index-rows-row.is (record { b = pos 0; a = [] }) in
    let e : c.coefficient.result ≡ coefficient_at (with_rows c.args.frame.now c.args.rows.now []) c.args.row c.args.variable =
    c.coefficient.ensures.value ∙ ap (λ row. coefficient c.args.frame.now row c.args.variable) row ∙ sym (coefficient-with_rows c.args.frame.now c.args.rows.now [] (row_at (with_rows c.args.frame.now c.args.rows.now []) c.args.row) c.args.variable) in
    simp to_z-of_z e
