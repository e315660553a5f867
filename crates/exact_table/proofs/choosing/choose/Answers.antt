use Rattle.std.proofs.Common.{sym, ap, ◌∙◌}
use Rattle.std.specs.Option.{option_map, option_and_then}
use Rattle.define_rows.specs.Choice.{leaving, choice}
use Rattle.define_rows.proofs.Entered.{entered-known}
use Rattle.exact_table.specs.Parts.{with_rows}
use Rattle.exact_table.proofs.PartLaws.{IsKnown-with_rows}
use Rattle.exact_table.proofs.choosing.choose.Goals as goal

pub row_to_leave-requires-clause-known : goal.row_to_leave-requires-clause-known
row_to_leave-requires-clause-known c =
    IsKnown-with_rows c.args.frame.now c.args.rows.now c.args.basic.now c.in-Some.variable
    (entered-known (with_rows c.args.frame.now c.args.rows.now c.args.basic.now) c.requires.order c.requires.open c.in-Some.variable (sym c.in-Some.ensures))

pub returns-in-None : goal.returns-in-None
unfolding choice
returns-in-None c = ap (option_and_then (λ v. option_map (λ i. (i, v)) (leaving (with_rows c.args.frame.now c.args.rows.now c.args.basic.now) v))) c.in-None.ensures

pub returns-in-None-row_to_leave : goal.returns-in-None-row_to_leave
unfolding choice
returns-in-None-row_to_leave c =
    ap (option_map (λ i. (i, c.in-Some.variable))) c.in-None-row_to_leave.ensures
    ∙ ap (option_and_then (λ v. option_map (λ i. (i, v)) (leaving (with_rows c.args.frame.now c.args.rows.now c.args.basic.now) v))) c.in-Some.ensures

pub returns-in-Some-row_to_leave : goal.returns-in-Some-row_to_leave
unfolding choice
returns-in-Some-row_to_leave c =
    ap (option_map (λ i. (i, c.in-Some.variable))) c.in-Some-row_to_leave.ensures
    ∙ ap (option_and_then (λ v. option_map (λ i. (i, v)) (leaving (with_rows c.args.frame.now c.args.rows.now c.args.basic.now) v))) c.in-Some.ensures
