use Rattle.std.proofs.Common.{◌≡◌, pos, drop, []}
use Rattle.std.specs.Ordering.{int_eq}
use Rattle.std.specs.List.{list_all}
use Rattle.define_rows.specs.Table.{coefficient_at}
use Rattle.define_rows.specs.Choice.{is_eligible}
use Rattle.exact_table.specs.Parts.{with_rows}
use Rattle.exact_table.proofs.choosing.is_eligible.Given as goal

abbrev pub invariant-loop-place : goal.invariant-loop-place
invariant-loop-place l =
    is_eligible (with_rows l.frame l.rows []) l.variable ≡ list_all (λ i. int_eq (coefficient_at (with_rows l.frame l.rows []) i l.variable) (pos 0)) (drop l.place l.closed)
