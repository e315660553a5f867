use Rattle.std.proofs.Common.{◌≡◌, ◌-◌, [], length, Some, None, sym, ap, ◌∙◌}
use Rattle.define_rows.specs.declared.Var.TheVariants.{Stage}
use Rattle.define_rows.specs.Table.{variables}
use Rattle.define_rows.specs.Choice.{basic_row, entering_from, entering}
use Rattle.exact_table.specs.Parts.{with_rows}
use Rattle.exact_table.proofs.PartLaws.{find_may_enter-with_rows}
use Rattle.exact_table.proofs.choosing.entering.Goals as goal

pub returns-in-None : goal.returns-in-None
unfolding entering
returns-in-None c =
    let row : basic_row (with_rows c.args.frame.now c.args.rows.now c.args.basic.now) (Stage (length c.args.frame.now.stages - 1)) ≡ None = ap (λ n. basic_row (with_rows c.args.frame.now c.args.rows.now c.args.basic.now) (Stage (n - 1))) (sym c.stages.ensures) ∙ sym c.in-None.ensures in
    ap (λ n. Some (Stage (n - 1))) c.stages.ensures ∙ sym (ap (entering_from (with_rows c.args.frame.now c.args.rows.now c.args.basic.now)) row)

pub returns-in-Some : goal.returns-in-Some
unfolding entering
returns-in-Some c =
    let row : basic_row (with_rows c.args.frame.now c.args.rows.now c.args.basic.now) (Stage (length c.args.frame.now.stages - 1)) ≡ Some c.in-Some.at = ap (λ n. basic_row (with_rows c.args.frame.now c.args.rows.now c.args.basic.now) (Stage (n - 1))) (sym c.stages.ensures) ∙ sym c.in-Some.ensures in
    c.first_to_enter.ensures
    ∙ find_may_enter-with_rows c.args.frame.now c.args.rows.now [] c.args.basic.now c.in-Some.at (variables c.args.frame.now)
    ∙ sym (ap (entering_from (with_rows c.args.frame.now c.args.rows.now c.args.basic.now)) row)
