use Rattle.std.proofs.Common.{◌≡◌, ◌-◌, [], map, length}
use Rattle.std.specs.List.{find, range_with_len}
use Rattle.define_rows.specs.declared.Var.TheVariants.{Stage}
use Rattle.exact_table.specs.Parts.{with_rows}
use Rattle.exact_table.specs.Best.{may_enter}
use Rattle.exact_table.proofs.choosing.first_stage.Given as goal

abbrev pub invariant-loop-stage : goal.invariant-loop-stage
invariant-loop-stage l =
    find (may_enter (with_rows l.frame l.rows []) l.at) (map Stage (range_with_len 0 (length l.frame.stages)))
    ≡ find (may_enter (with_rows l.frame l.rows []) l.at) (map Stage (range_with_len l.stage (length l.frame.stages - l.stage)))
