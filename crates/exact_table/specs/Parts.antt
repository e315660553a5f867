-- The parts of the table besides its rows, and the conditions that they meet. Builds on Marks, and on Table, Choice and InOrder of
-- `define_rows`. Used by the modules `frame`, `choosing`, `pivoting`, `rows` and `table`.
use Rattle.std.specs.Prelude.{◌≡◌, ◌≢◌, ℕ, ◌+◌, ◌-◌, nat_lt, ◌<◌, ◌≤◌, ◌^◌, ◌≤ℤ◌, ◌<ℤ◌, ℤ, pos, unsigned_abs, Bool, true, if◌then◌else◌, Option, Some, None, List, [], length, take, slice_index, slice_index_or}
use Rattle.std.specs.List.{All}
use Rattle.define_rows.specs.declared.Var.{Var}
use Rattle.define_rows.specs.Row.{Row, reach}
use Rattle.define_rows.specs.declared.Var.TheVariants.{Column}
use Rattle.define_rows.specs.Choice.{basic_row}
use Rattle.define_rows.specs.Table.{Table, coefficient_at, row_at}
use Rattle.define_rows.specs.InOrder.{count_in, IsInOrder}
use Rattle.exact_table.specs.Marks.{marks_of, settled_of, AreMarks}

-- the count of pivots after one more pivot; at 2 ^ 64 - 1 it stays
abbrev pub counted_on : ℕ → ℕ
counted_on count = if nat_lt count (2 ^ 64 - 1) then count + 1 else count

-- how many of the entered stages are closed: all, or all except the open one
abbrev pub closed_count : ℕ → Bool → ℕ
closed_count stages in_stage = stages - (if in_stage then 1 else 0)

-- the table of these parts, without rows yet
abbrev pub frame_of : List ℕ → List ℕ → ℕ → List (List ℕ) → List ℕ → Bool → ℕ → ℕ → Table
frame_of sizes settled_at stages columns closed in_stage bits pivots = record {
  sizes = sizes;
  rows = [];
  basic = [];
  columns = columns;
  stages = marks_of settled_at stages;
  closed = take (closed_count stages in_stage) closed;
  settled = settled_of settled_at;
  in_stage = in_stage;
  bits = bits;
  pivots = pivots;
}

-- the conditions on the parts: there is a mark for each class, `closed` has a place for each class, and numbers are within their limits
pub record IsFrame (sizes settled_at : List ℕ) (stages : ℕ) (columns : List (List ℕ)) (closed : List ℕ) (in_stage : Bool) (bits : ℕ) : Type 0 where
  pub some_each : All (λ size. 1 ≤ size) sizes
  pub marks_each : length settled_at ≡ length sizes
  pub marks : AreMarks settled_at stages
  pub few : stages ≤ 4000
  pub entered : in_stage ≡ true → 0 < stages
  pub room : length closed ≡ length sizes
  pub closed_few : closed_count stages in_stage ≤ length sizes
  pub count_each : All (λ counts. length counts ≡ length sizes) columns
  pub count_bound : (c t : ℕ) → c < length columns → t < length sizes → count_in columns c t ≤ slice_index sizes t
  pub some_bits : 1 ≤ bits
  pub few_bits : bits ≤ 127

-- the frame's table with these rows and their basic variables
abbrev pub with_rows : Table → List Row → List Var → Table
with_rows frame rows basic = record frame { rows = rows; basic = basic }

-- conditions on a table's rows under which their coefficients fit 128 bits
pub record AreRows (table : Table) : Type 0 where
  pub entry_count : All (λ row. length row.a ≡ length table.sizes) table.rows
  pub small : All (λ row. reach table.sizes row < 2 ^ 127) table.rows
  pub sides : All (λ row. pos 0 ≤ℤ row.b) table.rows

-- what `basic_entry` returns for a column: None if the column is basic in no row, else the right side of its row, and its coefficient
-- there, which is above 0
abbrev pub TellsBasic : Table → ℕ → Option (ℤ × ℤ) → Type 0
TellsBasic table column None = basic_row table (Column column) ≡ None
TellsBasic table column (Some entry) =
    (at : ℕ) × (basic_row table (Column column) ≡ Some at) × (entry.0 ≡ (row_at table at).b) × (entry.1 ≡ coefficient_at table at (Column column)) × (pos 0 <ℤ entry.1)

-- each number of a row fits 128 bits with a sign
pub record IsSmall (row : Row) : Type 0 where
  pub side : unsigned_abs row.b < 2 ^ 127
  pub entries : All (λ x. unsigned_abs x < 2 ^ 127) row.a

-- no column has these counts
abbrev pub IsNew : Table → List ℕ → Type 0
IsNew table counts = (c : ℕ) → c < length table.columns → slice_index_or table.columns c [] ≢ counts

-- no variable is basic in two rows
abbrev pub AreDifferent : List Var → Type 0
AreDifferent basic = (i j : ℕ) (d : Var) → i < length basic → j < length basic → slice_index_or basic i d ≡ slice_index_or basic j d → i ≡ j

-- the conditions on a table: it is in order, and `room`, the second list of rows, into which a pivot writes, has as many rows of the same
-- length
pub record IsTable (frame : Table) (rows room : List Row) (basic : List Var) : Type 0 where
  pub order : IsInOrder (with_rows frame rows basic)
  pub room_count : length room ≡ length rows
  pub room_each : All (λ row. length row.a ≡ length frame.sizes) room
