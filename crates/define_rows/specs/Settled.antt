-- Which classes each closed stage settled, and that each step keeps this record. Builds on Laws. `laws_of_runs` makes the stages of a
-- certificate from the record.
use Rattle.std.specs.Prelude.{◌≡◌, ℕ, ◌<◌, Bool, true, false, List, [], length, ℤ, pos, ◌≤ℤ◌, ◌<ℤ◌, slice_index, slice_index_or, Ok}
use Rattle.define_rows.specs.declared.Var.{Var}
use Rattle.define_rows.specs.Row.{entry}
use Rattle.define_rows.specs.Table.{Table, row_at}
use Rattle.define_rows.specs.Pivot.{start}
use Rattle.define_rows.specs.Steps.{enter_stage, close_stage, add_column}
use Rattle.define_rows.specs.Laws.{MayEnter, IsPivoted, MayClose}

-- class t was unsettled when stage k was entered
abbrev pub was_unsettled : Table → ℕ → ℕ → Bool
was_unsettled table k t = slice_index_or (slice_index_or table.stages k []) t false

-- class t is settled
abbrev pub is_settled : Table → ℕ → Bool
is_settled table t = slice_index_or table.settled t false

-- the entry of class t in the row of closed stage k
abbrev pub closed_entry : Table → ℕ → ℕ → ℤ
closed_entry table k t = entry (row_at table (slice_index table.closed k)) t

-- closed stage k settled class t: the class was unsettled when the stage was entered, and its entry in the stage's row is above 0
pub record Settles (table : Table) (k t : ℕ) : Type 0 where
  pub closed : k < length table.closed
  pub unsettled : was_unsettled table k t ≡ true
  pub above : pos 0 <ℤ closed_entry table k t

-- the table keeps its stages: the marks in `stages` and `settled` agree with the closed rows
pub record KeepsStages (table : Table) : Type 0 where
  -- in the row of a closed stage, no class that was unsettled when the stage was entered has an entry below 0
  pub none_below : (k t : ℕ) → k < length table.closed → was_unsettled table k t ≡ true → pos 0 ≤ℤ closed_entry table k t
  -- in the row of a closed stage, some class that was unsettled when the stage was entered has an entry above 0
  pub some_above : (k : ℕ) → k < length table.closed → (t : ℕ) × Settles table k t
  -- a class whose entry is above 0 in some closed row is settled
  pub settled_by_row : (k t : ℕ) → k < length table.closed → pos 0 <ℤ closed_entry table k t → is_settled table t ≡ true
  -- each settled class was settled by some closed stage
  pub settled_by_stage : (t : ℕ) → is_settled table t ≡ true → (k : ℕ) × Settles table k t
  -- if class t was unsettled when stage k was entered, its entry is at most 0 in the row of each closed stage before k
  pub no_row_before : (j k t : ℕ) → j < length table.closed → j < k → k < length table.stages → was_unsettled table k t ≡ true → closed_entry table j t ≤ℤ pos 0
  -- if class t was settled when stage k was entered, some closed stage before k settled it
  pub some_stage_before : (k t : ℕ) → k < length table.stages → t < length table.sizes → was_unsettled table k t ≡ false → (j : ℕ) × (j < k) × Settles table j t

-- the first table keeps its stages
abbrev pub StartKeepsStages : Type 0
StartKeepsStages = (sizes first : List ℕ) (bits : ℕ) (made : Table) → start sizes first bits ≡ Ok made → KeepsStages made

-- a table that keeps its stages still does when a stage is entered
abbrev pub EnterKeepsStages : Type 0
EnterKeepsStages = (table : Table) → MayEnter table → KeepsStages table → KeepsStages (enter_stage table)

-- a table that keeps its stages still does when a column is added
abbrev pub AddKeepsStages : Type 0
AddKeepsStages = (table : Table) (counts : List ℕ) → KeepsStages table → KeepsStages (add_column table counts)

-- a table that keeps its stages still does after the chosen pivot
abbrev pub PivotKeepsStages : Type 0
PivotKeepsStages = (table made : Table) (r : ℕ) (v : Var) → IsPivoted table made r v → KeepsStages table → KeepsStages made

-- a table that keeps its stages still does when its stage is closed
abbrev pub CloseKeepsStages : Type 0
CloseKeepsStages = (table : Table) → MayClose table → KeepsStages table → KeepsStages (close_stage table)
