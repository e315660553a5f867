-- The levels of the closed stages and the values of the columns over one scale, once all classes are settled. `laws_of_runs` makes the
-- stages of a certificate from the levels.
use Rattle.std.specs.Prelude.{◌≡◌, ◌≢◌, ℕ, ◌*◌, ◌<◌, false, if◌then◌else◌, length, pos, ◌*ℤ◌, slice_index, sum_by}
use Rattle.std.specs.Int.{◌∣◌}
use Rattle.std.specs.List.{All, range_with_len}
use Rattle.frac128.specs.Fractions.{lowest_of}
use Rattle.define_rows.specs.declared.Var.TheVariants.{Stage}
use Rattle.define_rows.specs.Table.{Table, row_at, coefficient_at}
use Rattle.define_rows.specs.Steps.{solution}
use Rattle.define_rows.specs.InOrder.{IsInOrder, count_in, settled_count}
use Rattle.define_rows.specs.Solutions.{numerator_over}
use Rattle.define_rows.specs.Settled.{was_unsettled, KeepsStages}

-- the count of class t: the sum over the solution of each column's value times its count of the class
abbrev pub count_of : Table → (ℕ → ℕ) → ℕ → ℕ
count_of table value t = sum_by (λ there. value there.column * count_in table.columns there.column t) (solution table)

-- the count of class t over `common`, a common multiple of the values' denominators: each value is its numerator over `common`
abbrev pub count_over : Table → ℕ → ℕ → ℕ
count_over table common t = sum_by (λ there. numerator_over common there * count_in table.columns there.column t) (solution table)

-- the sum of the levels of the closed stages that were entered while class t was unsettled
abbrev pub class_levels : Table → (ℕ → ℕ) → ℕ → ℕ
class_levels table level t = sum_by (λ k. if was_unsettled table k t then level k else 0) (range_with_len 0 (length table.closed))

-- a table in order that keeps its stages, has no stage open, and has all classes settled
pub record AllSettled (table : Table) : Type 0 where
  pub in_order : IsInOrder table
  pub stages : KeepsStages table
  pub shut : table.in_stage ≡ false
  pub settled : settled_count table ≡ length table.sizes

pub record HasLevels (table : Table) : Type 0 where
  pub scale : ℕ
  pub some_scale : 0 < scale
  -- `level k` is the level of closed stage k times `scale`. The level is the right side over the coefficient of the stage's variable in
  -- its row
  pub level : ℕ → ℕ
  pub level_is : (k : ℕ) → k < length table.closed → pos (level k) *ℤ coefficient_at table (slice_index table.closed k) (Stage k) ≡ pos scale *ℤ (row_at table (slice_index table.closed k)).b
  -- `value c` is the value of column c times `scale`
  pub value : ℕ → ℕ
  pub value_is : All (λ there. value there.column * there.coefficient ≡ scale * there.side) (solution table)
  -- the value is 0 if column c isn't in the solution
  pub value_none : (c : ℕ) → All (λ there. there.column ≢ c) (solution table) → value c ≡ 0
  -- the values sum to the scale
  pub whole : sum_by (λ there. value there.column) (solution table) ≡ scale
  -- the count of class t is its size times the sum of its levels
  pub counts : (t : ℕ) → t < length table.sizes → count_of table value t ≡ slice_index table.sizes t * class_levels table level t
  -- let `common` be a common multiple of the values' denominators. The scale times the count of class t over `common` is `common` times the
  -- size of class t times the sum of its levels
  pub counts_over : (common t : ℕ) → All (λ there. (lowest_of there.side there.coefficient).den ∣ common) (solution table) → t < length table.sizes →
      scale * count_over table common t ≡ common * (slice_index table.sizes t * class_levels table level t)

-- each table that is `AllSettled` has levels
abbrev pub SettledHasLevels : Type 0
SettledHasLevels = (table : Table) → AllSettled table → HasLevels table
