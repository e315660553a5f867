-- The steps other than the pivot: entering and closing a stage, and adding a column. Also the solution. Builds on Choice and Table. The run
-- of `define_runs` and `exact_table` make these steps.
use Rattle.std.specs.Prelude.{if◌then◌else◌, ℕ, Bool, true, false, not, ◌||◌, List, [], ◌∷◌, ◌++◌, map, length, Option, Some, None, ℤ, pos, int_lt, unsigned_abs, unwrap_or}
use Rattle.std.specs.List.{filter_map, range_with_len}
use Rattle.std.specs.Option.{option_and_then}
use Rattle.frac128.specs.Fractions.{Fraction, lowest_of}
use Rattle.define_rows.specs.declared.Var.TheVariants.{Column}
use Rattle.define_rows.specs.Table.{Table, row_at, coefficient_at, stage_variable}
use Rattle.define_rows.specs.Choice.{basic_row}

-- a stage is entered, for the classes that are unsettled now
unfoldable pub enter_stage : Table → Table
enter_stage table = record table { stages = table.stages ++ map not table.settled ∷ []; in_stage = true }

-- the number of the open row, in which the stage's variable is basic
abbrev pub open_row : Table → ℕ
open_row table = unwrap_or (basic_row table (stage_variable table)) 0

-- the marks of settled classes after a row with entries `xs` closes: a class is marked if it was before, or if its entry is above 0
abbrev pub settled_by : List ℤ → List Bool → List Bool
settled_by xs [] = []
settled_by [] (was ∷ settled) = was ∷ settled
settled_by (x ∷ xs) (was ∷ settled) = (was || int_lt (pos 0) x) ∷ settled_by xs settled

-- the stage closes in row `row`, which has the entries `entries`: each class whose entry is above 0 is settled
unfoldable pub closed_by : ℕ → List ℤ → Table → Table
closed_by row entries table = record table {
  closed = table.closed ++ row ∷ [];
  settled = settled_by entries table.settled;
  in_stage = false;
}

-- the stage closes in the open row
abbrev pub close_stage : Table → Table
close_stage table = closed_by (open_row table) (row_at table (open_row table)).a table

-- a column is added
unfoldable pub add_column : Table → List ℕ → Table
add_column table counts = record table { columns = table.columns ++ counts ∷ [] }

-- a column of positive value: the value is the right side over the coefficient, in the row in which the column is basic
pub record ColumnValue : Type 0 where
  pub column : ℕ
  pub side : ℕ
  pub coefficient : ℕ

-- a column and its value in lowest terms
abbrev pub fraction_of : ColumnValue → ℕ × Fraction
fraction_of there = (there.column, lowest_of there.side there.coefficient)

-- the value of column c, which is basic in row i; None if the value is 0
abbrev pub value_in : Table → ℕ → ℕ → Option ColumnValue
value_in table c i =
    if int_lt (pos 0) (row_at table i).b then Some (record {
      column = c;
      side = unsigned_abs (row_at table i).b;
      coefficient = unsigned_abs (coefficient_at table i (Column c));
    }) else None

-- the value of column c; None if the column isn't basic or its value is 0
abbrev pub value_of : Table → ℕ → Option ColumnValue
value_of table c = option_and_then (value_in table c) (basic_row table (Column c))

-- the columns of positive value, in rising order of their numbers
unfoldable pub solution : Table → List ColumnValue
solution table = filter_map (value_of table) (range_with_len 0 (length table.columns))
