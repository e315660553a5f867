-- The legs of a run: its pivots, counted between the steps that enter a stage, add a column or close a stage. Builds on Run of `define_runs`
-- and on Binomials of `define_rows`. LegTexts, `define_legs`, `leximin_run` and the meaning of the command `legs` use it.
use Rattle.std.specs.Prelude.{◌≡◌, ℕ, zero, suc, ◌+◌, ◌==◌, ◌||◌, Bool, nat_lt, if◌then◌else◌, List, [], ◌∷◌, ◌++◌, length, sum_by}
use Rattle.define_rows.specs.Binomials.{basis_count}
use Rattle.define_pools.specs.Pool.{Pool}
use Rattle.define_rows.specs.Table.{Table}
use Rattle.define_runs.specs.Run.{Ended, Ending, GoOn, Limits, Next, RunLimits, opening, run_limits, step}
use Rattle.define_searches.specs.Classes.{Classes, classes_of}
use Rattle.define_legs.specs.declared.Leg.{Leg}

-- ---- the legs of a run

-- the leg that begins at a table
abbrev pub leg_from : Table → Leg
leg_from table = record { stages = length table.stages; columns = length table.columns; pivots = 0 }

-- the leg with one pivot more
abbrev pub longer : Leg → Leg
longer leg = record leg { pivots = leg.pivots + 1 }

-- the legs, with one pivot more in the last
abbrev pub with_pivot : List Leg → List Leg
with_pivot [] = []
with_pivot (leg ∷ []) = longer leg ∷ []
with_pivot (leg ∷ next ∷ legs) = leg ∷ with_pivot (next ∷ legs)

-- the step from `table` to `made` was a pivot
abbrev pub has_pivoted : Table → Table → Bool
has_pivoted table made = nat_lt table.pivots made.pivots

-- the step from `table` to `made` entered a stage or added a column
abbrev pub has_begun : Table → Table → Bool
has_begun table made = nat_lt (length table.stages) (length made.stages) || nat_lt (length table.columns) (length made.columns)

-- the legs after a step from `table` to `made`: a pivot belongs to the last leg, and a stage that is entered or a column that is added
-- begins a leg
abbrev pub legs_after : List Leg → Table → Table → List Leg
legs_after legs table made =
    if has_pivoted table made then with_pivot legs
    else if has_begun table made then legs ++ leg_from made ∷ []
    else legs

-- a run after some steps: the table that it is at or its ending, and its legs
pub record Traced : Type 0 where
  pub next : Next
  pub legs : List Leg

abbrev pub legs_to : List Leg → Table → Next → List Leg
legs_to legs table (GoOn made) = legs_after legs table made
legs_to legs table (Ended ending) = legs

-- one step more
abbrev pub onward : Classes → RunLimits → Next → List Leg → Traced
onward all limits (GoOn table) legs = record { next = step all limits table; legs = legs_to legs table (step all limits table) }
onward all limits (Ended ending) legs = record { next = Ended ending; legs = legs }

-- the run after `steps` steps
abbrev pub traced : Classes → RunLimits → ℕ → Traced
traced all limits zero = record { next = opening all limits; legs = [] }
traced all limits (suc steps) = onward all limits (traced all limits steps).next (traced all limits steps).legs

-- the run over these classes under these limits has this ending, and these legs until then
pub record EndsWithLegs (all : Classes) (limits : RunLimits) (ending : Ending) (legs : List Leg) : Type 0 where
  pub steps : ℕ
  pub there : traced all limits steps ≡ record { next = Ended ending; legs = legs }

-- the run over this pool under these limits has this ending, and these legs until then
abbrev pub RunHasLegs : Pool → Limits → Ending → List Leg → Type 0
RunHasLegs pool limits ending legs = EndsWithLegs (classes_of pool) (run_limits limits) ending legs

-- ---- how many pivots a leg could have

-- how many sets of variables could be basic in a leg, with `classes` classes
abbrev pub leg_bases : ℕ → Leg → ℕ
leg_bases classes leg = basis_count classes leg.stages leg.columns

-- the same, or 0 for a leg without a pivot
abbrev pub leg_limit : ℕ → Leg → ℕ
leg_limit classes leg = if leg.pivots == 0 then 0 else leg_bases classes leg

-- the sum of `leg_bases` over the legs in which a pivot was made
abbrev pub pivot_limit : ℕ → List Leg → ℕ
pivot_limit classes legs = sum_by (leg_limit classes) legs

-- the stages and columns of a leg, counted together
abbrev pub leg_place : Leg → ℕ
leg_place leg = leg.stages + leg.columns
