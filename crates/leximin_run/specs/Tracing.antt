-- The legs of a run, as the code keeps them. Builds on Legs of `define_legs` and on Run of `define_runs`. Used by the modules `tracing` and
-- `solving`.
use Rattle.std.specs.Prelude.{◌≡◌, ℕ, List, length}
use Rattle.define_legs.specs.declared.Leg.{Leg}
use Rattle.define_legs.specs.Legs.{traced}
use Rattle.define_rows.specs.Table.{Table}
use Rattle.define_runs.specs.Run.{GoOn, RunLimits}
use Rattle.define_searches.specs.Classes.{Classes}
use Rattle.leximin_run.specs.declared.tracing.Counts.{Counts}

-- the numbers of a table
abbrev pub counts_in : Table → Counts
counts_in table = record { stages = length table.stages; columns = length table.columns; pivots = table.pivots }

-- the run reaches the table `table`, with these legs until then
pub record ReachesWithLegs (all : Classes) (limits : RunLimits) (table : Table) (legs : List Leg) : Type 0 where
  pub steps : ℕ
  pub there : traced all limits steps ≡ record { next = GoOn table; legs = legs }
