use Rattle.std.proofs.Common.{◌≡◌}
use Rattle.std.specs.Prelude.{IfSome}
use Rattle.std.specs.Option.{option_map}
use Rattle.exact_table.specs.Parts.{with_rows}
use Rattle.exact_table.specs.Best.{IsLeaver, best_of}
use Rattle.exact_table.proofs.choosing.row_to_leave.Given as goal

abbrev pub invariant-loop-row : goal.invariant-loop-row
invariant-loop-row l =
    (option_map (λ b. b.row) l.best ≡ best_of (with_rows l.frame l.rows l.basic) l.variable l.row)
    × IfSome l.best (λ b. IsLeaver (with_rows l.frame l.rows l.basic) l.variable b.row b.side b.coefficient b.basic)
