-- Bland's rule: which variable enters, and in which row it becomes basic. Builds on Table. `define_runs` and `exact_table` choose by it.
use Rattle.std.specs.Prelude.{ℕ, Bool, not, ◌&&◌, ◌||◌, Option, Some, None, ℤ, pos, ◌*ℤ◌, int_lt}
use Rattle.std.specs.Ordering.{int_eq}
use Rattle.std.specs.List.{find, list_all, position}
use Rattle.std.specs.Option.{option_map, option_and_then}
use Rattle.define_rows.specs.declared.Var.{Var}
use Rattle.define_rows.specs.Table.{Table, coefficient_at, row_at, basic_at, row_numbers, variables, is_same, comes_before, stage_variable}

-- variable v is eligible: its coefficient is 0 in each closed row
abbrev pub is_eligible : Table → Var → Bool
is_eligible table v = list_all (λ i. int_eq (coefficient_at table i v) (pos 0)) table.closed

-- the number of the row in which a variable is basic, if there is one
abbrev pub basic_row : Table → Var → Option ℕ
basic_row table v = position (λ x. is_same x v) table.basic

-- the variable that enters, given the row in which the stage's variable is basic. If the stage's variable isn't basic, it enters; else the
-- first eligible variable, in the order of `variables`, whose coefficient in row `open_row` is below 0
abbrev pub entering_from : Table → Option ℕ → Option Var
entering_from table None = Some (stage_variable table)
entering_from table (Some open_row) = find (λ v. is_eligible table v && int_lt (coefficient_at table open_row v) (pos 0)) (variables table)

-- the variable that enters
unfoldable pub entering : Table → Option Var
entering table = entering_from table (basic_row table (stage_variable table))

-- the basic variable of row i may leave when v enters: the row's coefficient on v is above 0
abbrev pub may_leave : Table → Var → ℕ → Bool
may_leave table v i = int_lt (pos 0) (coefficient_at table i v)

-- the first of two rows is preferred to the second, if the basic variables of both may leave. Each row is given by its right side, its
-- coefficient and its basic variable. The lesser ratio of right side to coefficient is preferred; if the ratios are equal, the row whose
-- basic variable comes before the other one (`comes_before`)
abbrev pub goes_before : ℤ → ℤ → Var → ℤ → ℤ → Var → Bool
goes_before b c x other_b other_c y =
    int_lt (b *ℤ other_c) (other_b *ℤ c) || int_eq (b *ℤ other_c) (other_b *ℤ c) && comes_before x y

-- when v enters, row i is preferred to row j
abbrev pub leaves_before : Table → Var → ℕ → ℕ → Bool
leaves_before table v i j =
    goes_before (row_at table i).b (coefficient_at table i v) (basic_at table i) (row_at table j).b (coefficient_at table j v) (basic_at table j)

-- the basic variable of row i may leave, and no other row of which this holds is preferred to it
abbrev pub is_least : Table → Var → ℕ → Bool
is_least table v i = may_leave table v i && list_all (λ j. not (may_leave table v j) || not (leaves_before table v j i)) (row_numbers table)

-- the number of the row whose basic variable leaves when v enters, if there is one
unfoldable pub leaving : Table → Var → Option ℕ
leaving table v = find (is_least table v) (row_numbers table)

-- the pivot that is chosen, if there is one: the number of the row whose basic variable leaves, and the variable that enters
unfoldable pub choice : Table → Option (ℕ × Var)
choice table = option_and_then (λ v. option_map (λ i. (i, v)) (leaving table v)) (entering table)
