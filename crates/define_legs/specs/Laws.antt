-- Laws of the legs of a run. Builds on Legs of `define_legs`, and on Run and Keeps of `define_runs`.
use Rattle.std.specs.Prelude.{◌≡◌, ℕ, ◌<◌, List, length, map, sum_by}
use Rattle.std.specs.List.{All, AllPairs}
use Rattle.define_legs.specs.declared.Leg.{Leg}
use Rattle.define_legs.specs.Legs.{EndsWithLegs, leg_bases, leg_place, pivot_limit, traced, with_pivot}
use Rattle.define_rows.specs.Table.{Table}
use Rattle.define_runs.specs.Keeps.{AreRunLimits}
use Rattle.define_runs.specs.Run.{Ending, Ends, GoOn, PivotsSpent, RunLimits, follow, opening}
use Rattle.define_searches.specs.Classes.{Classes, KeepsLimits}

-- the tables and the ending that `traced` goes through are those of the run
abbrev pub TracesTheRun : Type 0
TracesTheRun = (all : Classes) (limits : RunLimits) (steps : ℕ) → (traced all limits steps).next ≡ follow all limits (opening all limits) steps

-- a run that has an ending has legs until then
abbrev pub EachEndingHasLegs : Type 0
EachEndingHasLegs = (all : Classes) (limits : RunLimits) (ending : Ending) → Ends all limits ending → (legs : List Leg) × EndsWithLegs all limits ending legs

-- the ending is the run's
abbrev pub LegsEndTheRun : Type 0
LegsEndTheRun = (all : Classes) (limits : RunLimits) (ending : Ending) (legs : List Leg) → EndsWithLegs all limits ending legs → Ends all limits ending

-- a run has one ending, and one list of legs until then
abbrev pub OneListOfLegs : Type 0
OneListOfLegs = (all : Classes) (limits : RunLimits) (first second : Ending) (legs others : List Leg) → EndsWithLegs all limits first legs → EndsWithLegs all limits second others →
    (first ≡ second) × (legs ≡ others)

-- each leg of a run has more stages and columns than the legs before it, so no two are of the same numbers of stages and columns
abbrev pub LegsAreApart : Type 0
LegsAreApart = (all : Classes) (limits : RunLimits) (steps : ℕ) → KeepsLimits all → AreRunLimits limits → AllPairs (λ a b. a < b) (map leg_place (traced all limits steps).legs)

-- the pivots of a table that a run is at are those of its legs
abbrev pub LegsHavePivots : Type 0
LegsHavePivots = (all : Classes) (limits : RunLimits) (steps : ℕ) (table : Table) → KeepsLimits all → AreRunLimits limits → (traced all limits steps).next ≡ GoOn table →
    sum_by (λ leg. leg.pivots) (traced all limits steps).legs ≡ table.pivots

-- each leg of a run has fewer pivots than there are sets of variables that could be basic in it
abbrev pub LegsHaveFewPivots : Type 0
LegsHaveFewPivots = (all : Classes) (limits : RunLimits) (steps : ℕ) → KeepsLimits all → AreRunLimits limits →
    All (λ leg. leg.pivots < leg_bases (length all.classes) leg) (traced all limits steps).legs

-- If a run ends because its budget of pivots is spent, the budget is below the sum of `leg_bases` over the legs in which a pivot was made or
-- is due. The pivot that is due is counted in the last leg
abbrev pub SpendsBelowLimit : Type 0
SpendsBelowLimit = (all : Classes) (limits : RunLimits) (table : Table) (legs : List Leg) → KeepsLimits all → AreRunLimits limits → EndsWithLegs all limits (PivotsSpent table) legs →
    limits.pivots < pivot_limit (length all.classes) (with_pivot legs)
