-- Which variable enters, and in which row it becomes basic, found by looking at the variables and the rows in order. Builds on Choice of
-- `define_rows`. Used by the module `choosing`.
use Rattle.std.specs.Prelude.{◌≡◌, ◌<◌, ℕ, zero, suc, length, ℤ, ◌≤ℤ◌, ◌<ℤ◌, if◌then◌else◌, Bool, ◌&&◌, Option, Some, None, pos, int_lt}
use Rattle.define_rows.specs.declared.Var.{Var}
use Rattle.define_rows.specs.Table.{Table, coefficient_at, row_at, basic_at}
use Rattle.define_rows.specs.Choice.{is_eligible, may_leave, leaves_before}

-- variable `v` is eligible, and its coefficient in row `i` is below 0
abbrev pub may_enter : Table → ℕ → Var → Bool
may_enter table i v = is_eligible table v && int_lt (coefficient_at table i v) (pos 0)

-- what is known of a row whose basic variable may leave when `v` enters: its right side, the positive coefficient of `v`, and its basic
-- variable
pub record IsLeaver (table : Table) (v : Var) (row : ℕ) (side coefficient : ℤ) (basic : Var) : Type 0 where
  pub place : row < length table.rows
  pub side_is : side ≡ (row_at table row).b
  pub coefficient_is : coefficient ≡ coefficient_at table row v
  pub basic_is : basic ≡ basic_at table row
  pub some_side : pos 0 ≤ℤ side
  pub positive : pos 0 <ℤ coefficient

-- row `i` or the best row so far, whichever Bland's rule prefers when `v` enters; row `i` if there is no best row so far
abbrev pub better : Table → Var → ℕ → Option ℕ → Option ℕ
better table v i None = Some i
better table v i (Some b) = if leaves_before table v i b then Some i else Some b

-- the best row so far, with row `i` taken into account if its basic variable may leave
abbrev pub next_best : Table → Var → ℕ → Option ℕ → Option ℕ
next_best table v i best = if may_leave table v i then better table v i best else best

-- the best of the first `n` rows, among those whose basic variable may leave, or None if there are none
abbrev pub best_of : Table → Var → ℕ → Option ℕ
best_of table v zero = None
best_of table v (suc n) = next_best table v n (best_of table v n)
