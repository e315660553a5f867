use Rattle.std.proofs.Common.{[], ◌++◌, map, length, sym, ◌∙◌}
use Rattle.std.specs.List.{range_with_len}
use Rattle.define_rows.specs.declared.Var.TheVariants.{Slack, Stage, Column}
use Rattle.exact_table.specs.Parts.{with_rows}
use Rattle.exact_table.specs.Best.{may_enter}
use Rattle.exact_table.proofs.BestLaws.{find-left, find-right}
use Rattle.exact_table.proofs.choosing.first_to_enter.Goals as goal

pub returns-in-Some : goal.returns-in-Some
returns-in-Some c =
    sym (find-left (may_enter (with_rows c.args.frame.now c.args.rows.now []) c.args.at) (map Slack (range_with_len 0 (length c.args.frame.now.sizes)) ++ map Stage (range_with_len 0 (length c.args.frame.now.stages))) (map Column (range_with_len 0 (length c.args.frame.now.columns))) c.in-Some.slack
    (find-left (may_enter (with_rows c.args.frame.now c.args.rows.now []) c.args.at) (map Slack (range_with_len 0 (length c.args.frame.now.sizes))) (map Stage (range_with_len 0 (length c.args.frame.now.stages))) c.in-Some.slack (sym c.in-Some.ensures)))

pub returns-in-Some-first_stage : goal.returns-in-Some-first_stage
returns-in-Some-first_stage c =
    sym (find-left (may_enter (with_rows c.args.frame.now c.args.rows.now []) c.args.at) (map Slack (range_with_len 0 (length c.args.frame.now.sizes)) ++ map Stage (range_with_len 0 (length c.args.frame.now.stages))) (map Column (range_with_len 0 (length c.args.frame.now.columns))) c.in-Some-first_stage.stage
    (find-right (may_enter (with_rows c.args.frame.now c.args.rows.now []) c.args.at) (map Slack (range_with_len 0 (length c.args.frame.now.sizes))) (map Stage (range_with_len 0 (length c.args.frame.now.stages))) (sym c.in-None.ensures) ∙ sym c.in-Some-first_stage.ensures))

pub returns-in-None-first_stage : goal.returns-in-None-first_stage
returns-in-None-first_stage c =
    c.first_column.ensures
    ∙ sym (find-right (may_enter (with_rows c.args.frame.now c.args.rows.now []) c.args.at) (map Slack (range_with_len 0 (length c.args.frame.now.sizes)) ++ map Stage (range_with_len 0 (length c.args.frame.now.stages))) (map Column (range_with_len 0 (length c.args.frame.now.columns)))
    (find-right (may_enter (with_rows c.args.frame.now c.args.rows.now []) c.args.at) (map Slack (range_with_len 0 (length c.args.frame.now.sizes))) (map Stage (range_with_len 0 (length c.args.frame.now.stages))) (sym c.in-None.ensures) ∙ sym c.in-None-first_stage.ensures))
