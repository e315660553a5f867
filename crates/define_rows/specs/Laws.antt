-- Laws that the functions of this crate promise: each step keeps a table in order (`IsInOrder`), a basic variable leaves when another
-- variable enters, and closing a stage settles a class.
use Rattle.std.specs.Prelude.{◌≡◌, ◌≢◌, ℕ, ◌<◌, ◌≤◌, true, false, List, [], length, sum, Some, None, Ok, slice_index, slice_index_or}
use Rattle.std.specs.List.{All}
use Rattle.define_rows.specs.declared.Var.{Var}
use Rattle.define_rows.specs.Table.{Table, row_at, basic_at}
use Rattle.define_rows.specs.Pivot.{start, pivot}
use Rattle.define_rows.specs.Choice.{entering, leaving, choice}
use Rattle.define_rows.specs.Steps.{enter_stage, close_stage, add_column}
use Rattle.define_rows.specs.InOrder.{IsInOrder, settled_count}

-- a table may start with class sizes `sizes`, column `first` and a width of `bits`
pub record MayStart (sizes first : List ℕ) (bits : ℕ) : Type 0 where
  -- there is at least one class, each size is at least 1, and the sizes sum to at most 4,000
  pub some_class : 0 < length sizes
  pub sizes_each : All (λ size. 1 ≤ size) sizes
  pub few : sum sizes ≤ 4000
  -- the column has a count for each class, from 0 to its size
  pub counts : length first ≡ length sizes
  pub bounds : (t : ℕ) → t < length sizes → slice_index first t ≤ slice_index sizes t
  -- the width is from 1 to 127 bits
  pub some_bits : 1 ≤ bits
  pub few_bits : bits ≤ 127

-- the first table is in order
abbrev pub StartKeepsOrder : Type 0
StartKeepsOrder = (sizes first : List ℕ) (bits : ℕ) (made : Table) → MayStart sizes first bits → start sizes first bits ≡ Ok made → IsInOrder made

-- a stage may be entered: the table is in order, no stage is open, and some class is unsettled
pub record MayEnter (table : Table) : Type 0 where
  pub in_order : IsInOrder table
  pub shut : table.in_stage ≡ false
  pub unsettled : settled_count table < length table.sizes

-- if a stage may be entered (`MayEnter`), the table is in order after it is entered
abbrev pub EnterKeepsOrder : Type 0
EnterKeepsOrder = (table : Table) → MayEnter table → IsInOrder (enter_stage table)

-- the column `counts` may be added: the table is in order and doesn't have the column, which has a count for each class, from 0 to its size
pub record MayAdd (table : Table) (counts : List ℕ) : Type 0 where
  pub in_order : IsInOrder table
  pub each : length counts ≡ length table.sizes
  pub bounds : (t : ℕ) → t < length table.sizes → slice_index counts t ≤ slice_index table.sizes t
  pub fresh : (c : ℕ) → c < length table.columns → slice_index_or table.columns c [] ≢ counts

-- if a column may be added (`MayAdd`), the table is in order after it is added
abbrev pub AddKeepsOrder : Type 0
AddKeepsOrder = (table : Table) (counts : List ℕ) → MayAdd table counts → IsInOrder (add_column table counts)

-- `table` is in order with a stage open, and `made` is the table after the chosen pivot, at row r, where v enters
pub record IsPivoted (table made : Table) (r : ℕ) (v : Var) : Type 0 where
  pub in_order : IsInOrder table
  pub open_now : table.in_stage ≡ true
  pub chosen : choice table ≡ Some (r, v)
  pub pivoted : pivot table r v ≡ Ok made

-- a table in order stays in order after the chosen pivot
abbrev pub PivotKeepsOrder : Type 0
PivotKeepsOrder = (table made : Table) (r : ℕ) (v : Var) → IsPivoted table made r v → IsInOrder made

-- `made` has the same closed rows as `table`, with the same numbers and basic variables
pub record HasClosedRowsOf (table made : Table) : Type 0 where
  pub closed : made.closed ≡ table.closed
  pub numbers : All (λ i. row_at made i ≡ row_at table i) table.closed
  pub basic : All (λ i. basic_at made i ≡ basic_at table i) table.closed

-- the chosen pivot leaves the closed rows as they are
abbrev pub PivotKeepsClosedRows : Type 0
PivotKeepsClosedRows = (table made : Table) (r : ℕ) (v : Var) → IsPivoted table made r v → HasClosedRowsOf table made

-- in a table in order with a stage open, some row's basic variable leaves when the entering variable v enters
abbrev pub SomeRowLeaves : Type 0
SomeRowLeaves = (table : Table) (v : Var) → IsInOrder table → table.in_stage ≡ true → entering table ≡ Some v → leaving table v ≢ None

-- a stage may be closed: the table is in order, a stage is open, and no pivot is chosen
pub record MayClose (table : Table) : Type 0 where
  pub in_order : IsInOrder table
  pub open_now : table.in_stage ≡ true
  pub done : choice table ≡ None

-- in a table in order with a stage open, no variable enters if no pivot is chosen
abbrev pub NothingEnters : Type 0
NothingEnters = (table : Table) → MayClose table → entering table ≡ None

-- a table in order stays in order when its stage is closed
abbrev pub CloseKeepsOrder : Type 0
CloseKeepsOrder = (table : Table) → MayClose table → IsInOrder (close_stage table)

-- at least one class settles when a stage is closed
abbrev pub SomeClassSettles : Type 0
SomeClassSettles = (table : Table) → MayClose table → settled_count table < settled_count (close_stage table)
