-- How much of a run is left to do: each step leaves less, so each run ends. Builds on Keeps.
use Rattle.std.specs.Prelude.{◌≡◌, ℕ, ◌+◌, ◌-◌, ◌*◌, ◌<◌, if◌then◌else◌, length, Option, Some, None}
use Rattle.define_pools.specs.Pool.{IsPool, Pool}
use Rattle.define_rows.specs.declared.Var.{Var}
use Rattle.define_rows.specs.Choice.{choice}
use Rattle.define_rows.specs.InOrder.{settled_count}
use Rattle.define_rows.specs.Table.{Table}
use Rattle.define_searches.specs.Classes.{Classes, KeepsLimits}
use Rattle.define_runs.specs.Keeps.{AreLimits, AreRunLimits, KeepsRun}
use Rattle.define_runs.specs.Run.{Ending, Ends, GoOn, Limits, RunEnds, RunLimits, step}

-- a measure of what is left to do in an open stage, given the pivot that is chosen, if any
abbrev pub turns_by : Option (ℕ × Var) → ℕ
turns_by None = 2
turns_by (Some chosen) = 1

abbrev pub turns_left : Table → ℕ
turns_left table = if table.in_stage then turns_by (choice table) else 3

-- a measure of what is left of a run, from the classes to settle, the pivots that may still be made, and what is left of the stage
unfoldable pub work_left : RunLimits → Table → ℕ
work_left limits table = 8 * (length table.sizes - settled_count table) + 4 * (limits.pivots - table.pivots) + turns_left table

abbrev pub StepLeavesLess : Type 0
StepLeavesLess = (all : Classes) (limits : RunLimits) (table next : Table) → KeepsLimits all → KeepsRun all limits table → step all limits table ≡ GoOn next →
    work_left limits next < work_left limits table

-- a run over classes within the limits of a pool, under limits in their ranges, has an ending
abbrev pub EachEnds : Type 0
EachEnds = (all : Classes) (limits : RunLimits) → KeepsLimits all → AreRunLimits limits → (ending : Ending) × Ends all limits ending

-- a run over a pool, under limits in their ranges, has an ending
abbrev pub EachRunEnds : Type 0
EachRunEnds = (pool : Pool) (limits : Limits) → IsPool pool → AreLimits limits → (ending : Ending) × RunEnds pool limits ending
