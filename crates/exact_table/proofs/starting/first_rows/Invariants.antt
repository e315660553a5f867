use Rattle.std.proofs.Common.{◌≡◌, ◌∷◌, map, length, get_or}
use Rattle.std.specs.List.{range_with_len}
use Rattle.define_rows.specs.Pivot.{total_row, class_row}
use Rattle.exact_table.proofs.starting.first_rows.Given as goal

abbrev pub invariant-loop-class : goal.invariant-loop-class
invariant-loop-class l = l.rows.items ≡ total_row (length l.first) ∷ map (λ t. class_row (length l.first) (t, get_or l.first t 0)) (range_with_len 0 l.class)
