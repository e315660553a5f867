-- The properties that each table of a run has, and the ranges of a run's limits. Builds on Run, and on Laws of `define_rows`. Work,
-- `leximin_run` and `laws_of_runs` use them, and Facts of `define_offices` uses the ranges.
use Rattle.std.specs.Prelude.{◌≡◌, ◌≢◌, ℕ, ◌<◌, ◌≤◌, true, List, length, take, slice_index, Contains, Some, None}
use Rattle.std.specs.List.{All}
use Rattle.define_rows.specs.Choice.{choice}
use Rattle.define_rows.specs.InOrder.{IsInOrder}
use Rattle.define_rows.specs.Laws.{MayAdd}
use Rattle.define_rows.specs.Steps.{add_column, open_row}
use Rattle.define_rows.specs.Table.{Table, row_at}
use Rattle.define_searches.specs.Classes.{Classes, KeepsLimits}
use Rattle.define_searches.specs.Compositions.{compositions, price}
use Rattle.define_searches.specs.Fronts.{sizes_of}
use Rattle.define_runs.specs.Spreading.{AreParts}
use Rattle.define_runs.specs.Run.{Limits, RunLimits, GoOn, closed_rows, follow, opening, parts_of, run_limits}

-- the width and the budget of pivots are in their ranges; the budgets of visits may be any numbers
pub record AreRunLimits (limits : RunLimits) : Type 0 where
  pub some_bits : 1 ≤ limits.bits
  pub few_bits : limits.bits ≤ 127
  pub few_pivots : limits.pivots ≤ 1000000000

abbrev pub AreLimits : Limits → Type 0
AreLimits limits = AreRunLimits (run_limits limits)

-- the run over these classes reaches this table
pub record IsReached (all : Classes) (limits : RunLimits) (table : Table) : Type 0 where
  pub steps : ℕ
  pub there : follow all limits (opening all limits) steps ≡ GoOn table

-- the properties that each table of a run has
pub record KeepsRun (all : Classes) (limits : RunLimits) (table : Table) : Type 0 where
  pub in_order : IsInOrder table
  pub sizes : table.sizes ≡ sizes_of all
  pub width : table.bits ≡ limits.bits
  pub pivots : table.pivots ≤ limits.pivots
  -- each column is a composition
  pub columns : All (Contains (compositions all)) table.columns
  -- each closed row was priced out: no composition that attains the rows closed before this row weighs more in it than its right side
  pub priced_out : (k : ℕ) → k < length table.closed → price all (take k (closed_rows table)) (row_at table (slice_index table.closed k)) ≡ None

-- over classes within the limits of a pool, `KeepsRun` holds of each table that a run reaches
abbrev pub ReachedIsKept : Type 0
ReachedIsKept = (all : Classes) (limits : RunLimits) (table : Table) → KeepsLimits all → AreRunLimits limits → IsReached all limits table → KeepsRun all limits table

-- `KeepsRun` holds of the table, a stage is open, no pivot is chosen, and pricing finds `counts`
pub record IsPriced (all : Classes) (limits : RunLimits) (table : Table) (counts : List ℕ) : Type 0 where
  pub keeps : KeepsRun all limits table
  pub open_now : table.in_stage ≡ true
  pub done : choice table ≡ None
  pub found : price all (closed_rows table) (row_at table (open_row table)) ≡ Some counts

-- a composition that pricing found may become a column
abbrev pub PricedMayBeAdded : Type 0
PricedMayBeAdded = (all : Classes) (limits : RunLimits) (table : Table) (counts : List ℕ) → KeepsLimits all → IsPriced all limits table counts → MayAdd table counts

-- after a composition that pricing found has become a column, a pivot is chosen
abbrev pub PricedIsChosen : Type 0
PricedIsChosen = (all : Classes) (limits : RunLimits) (table : Table) (counts : List ℕ) → KeepsLimits all → IsPriced all limits table counts → choice (add_column table counts) ≢ None

-- if `KeepsRun` holds of a table, its columns of positive value are different compositions, with fractions that sum to one
abbrev pub PartsSpread : Type 0
PartsSpread = (all : Classes) (limits : RunLimits) (table : Table) → KeepsRun all limits table → AreParts all (parts_of table)
