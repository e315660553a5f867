-- The solution of a table in order: columns of positive value, in rising order, whose values sum to one. Builds on InOrder and Steps.
-- `define_runs` spreads the columns over panels.
use Rattle.std.specs.Prelude.{◌≡◌, ℕ, ◌*◌, ◌/◌, ◌<◌, [], length, sum_by, slice_index_or}
use Rattle.std.specs.Int.{◌∣◌}
use Rattle.std.specs.List.{All, AllPairs}
use Rattle.frac128.specs.Fractions.{lowest_of}
use Rattle.define_rows.specs.Row.{sum_of_products}
use Rattle.define_rows.specs.Table.{Table, row_at}
use Rattle.define_rows.specs.Steps.{ColumnValue, solution}
use Rattle.define_rows.specs.InOrder.{IsInOrder}

-- a column's value as a numerator over `common`, a common multiple of the denominators
abbrev pub numerator_over : ℕ → ColumnValue → ℕ
numerator_over common there = (lowest_of there.side there.coefficient).num * (common / (lowest_of there.side there.coefficient).den)

pub record SolutionStands (table : Table) : Type 0 where
  -- the columns are in rising order, so none is listed twice
  pub rises : AllPairs (λ a b. a.column < b.column) (solution table)
  -- they are columns of the table
  pub known : All (λ there. there.column < length table.columns) (solution table)
  -- each value is above 0
  pub positive : All (λ there. (0 < there.side) × (0 < there.coefficient)) (solution table)
  -- over each common multiple of the denominators, the numerators sum to this multiple: the values sum to one
  pub one : (common : ℕ) → All (λ there. (lowest_of there.side there.coefficient).den ∣ common) (solution table) → sum_by (numerator_over common) (solution table) ≡ common

-- the solution of each table in order is as `SolutionStands` says
abbrev pub SolutionsStand : Type 0
SolutionsStand = (table : Table) → IsInOrder table → SolutionStands table

-- column c is tight at row i: the sum of its counts times the row's entries is the row's right side
abbrev pub IsTight : Table → ℕ → ℕ → Type 0
IsTight table c i = sum_of_products (slice_index_or table.columns c []) (row_at table i).a ≡ (row_at table i).b

-- in each table in order, the columns of the solution are tight at the closed rows
abbrev pub BasicColumnsAreTight : Type 0
BasicColumnsAreTight = (table : Table) → IsInOrder table → All (λ there. All (IsTight table there.column) table.closed) (solution table)
