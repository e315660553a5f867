use Rattle.std.proofs.Common.{◌≡◌, ◌-◌, [], map, length}
use Rattle.std.specs.List.{find, range_with_len}
use Rattle.define_rows.specs.declared.Var.TheVariants.{Slack}
use Rattle.exact_table.specs.Parts.{with_rows}
use Rattle.exact_table.specs.Best.{may_enter}
use Rattle.exact_table.proofs.choosing.first_slack.Given as goal

abbrev pub invariant-loop-class : goal.invariant-loop-class
invariant-loop-class l =
    find (may_enter (with_rows l.frame l.rows []) l.at) (map Slack (range_with_len 0 (length l.frame.sizes)))
    ≡ find (may_enter (with_rows l.frame l.rows []) l.at) (map Slack (range_with_len l.class (length l.frame.sizes - l.class)))
