use Rattle.std.proofs.Common.{◌≡◌, ◌-◌, [], map, length}
use Rattle.std.specs.List.{find, range_with_len}
use Rattle.define_rows.specs.declared.Var.TheVariants.{Column}
use Rattle.exact_table.specs.Parts.{with_rows}
use Rattle.exact_table.specs.Best.{may_enter}
use Rattle.exact_table.proofs.choosing.first_column.Given as goal

abbrev pub invariant-loop-column : goal.invariant-loop-column
invariant-loop-column l =
    find (may_enter (with_rows l.frame l.rows []) l.at) (map Column (range_with_len 0 (length l.frame.columns)))
    ≡ find (may_enter (with_rows l.frame l.rows []) l.at) (map Column (range_with_len l.column (length l.frame.columns - l.column)))
