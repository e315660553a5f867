-- The step with which a run ends, and what this step shows about the ending.
use Rattle.std.proofs.Common.{◌≡◌, ℕ, zero, suc, ◌≤◌, Bool, true, false, length, None, Some, refl, sym, ap, inl, inr, ◌⊎◌}
use Rattle.define_rows.specs.InOrder.{settled_count}
use Rattle.define_rows.specs.Table.{Table}
use Rattle.define_runs.specs.Keeps.{IsReached}
use Rattle.define_runs.specs.Run.{Ending, RunLimits, Next, GoOn, Ended, NoPanel, Found, TooWide, TotalPasses, PivotsSpent, NodesSpent, answered, follow, opening, parts_of, step}
use Rattle.define_searches.specs.Classes.{Classes}
use Rattle.define_searches.specs.Compositions.{first_composition}
use Rattle.define_searches.specs.Visits.{first_search}
use Rattle.define_runs.specs.Spreading.{spread}
use Rattle.define_runs.proofs.StepCases.{StepIs, Enters, Answers, NoPivot, Pivots, Passes, NoVisits, Widens, Closes, step_is, OpeningIs, Spends, FindsNoPanel, IsWide, Begins, opening_is}

-- the run ended because an operation passed the width, or a step exceeded the budget of pivots or of visits
abbrev pub is_refused : Ending → Bool
is_refused NoPanel = false
is_refused (Found last answer) = false
is_refused (TooWide stood pass) = true
is_refused (TotalPasses stood pass) = false
is_refused (PivotsSpent stood) = true
is_refused (NodesSpent stood) = true

-- a table that the run reaches and whose next step ends the run
pub record EndsAt (all : Classes) (limits : RunLimits) (ending : Ending) : Type 0 where
  pub last : Table
  pub reached : IsReached all limits last
  pub step_is : step all limits last ≡ Ended ending

-- ---- the step with which a run ends

module _ (all : Classes) (limits : RunLimits) where
  -- a table after some number of steps from `next`, whose next step ends the run
  record LastStep (next : Next) (ending : Ending) : Type 0 where
    table : Table
    steps : ℕ
    there : follow all limits next steps ≡ GoOn table
    step_is : step all limits table ≡ Ended ending

  one_before : (table : Table) (ending : Ending) → (step all limits table ≡ Ended ending) ⊎ LastStep (step all limits table) ending → LastStep (GoOn table) ending
  one_before table ending (inl now) = record { table = table; steps = 0; there = refl; step_is = now }
  one_before table ending (inr later) = record { table = later.table; steps = suc later.steps; there = later.there; step_is = later.step_is }

  last_step : (next : Next) (n : ℕ) (ending : Ending) → follow all limits next n ≡ Ended ending → (next ≡ Ended ending) ⊎ LastStep next ending
  last_step next zero ending e = inl e
  last_step (Ended ended) (suc n) ending e = inl e
  last_step (GoOn table) (suc n) ending e = inr (one_before table ending (last_step (step all limits table) n ending e))

  pub ends_at : (n : ℕ) (ending : Ending) → follow all limits (opening all limits) n ≡ Ended ending → (opening all limits ≡ Ended ending) ⊎ EndsAt all limits ending
  ends_at n ending e = by (last_step (opening all limits) n ending e)
    where
      by : (opening all limits ≡ Ended ending) ⊎ LastStep (opening all limits) ending → (opening all limits ≡ Ended ending) ⊎ EndsAt all limits ending
      by (inl now) = inl now
      by (inr last) = inr (record { last = last.table; reached = record { steps = last.steps; there = last.there }; step_is = last.step_is })

  -- ---- if the opening ends the run

  -- the opening search, within its budget, finds no composition
  pub record FindsNone (ending : Ending) : Type 0 where
    pub none : first_composition all ≡ None
    pub within : (first_search all).visits ≤ limits.opening
    pub is : ending ≡ NoPanel

  pub opening_tells : (ending : Ending) → opening all limits ≡ Ended ending → FindsNone ending ⊎ (is_refused ending ≡ true)
  opening_tells ending e = by (opening all limits) e (opening_is all limits)
    where
      by : (next : Next) → next ≡ Ended ending → OpeningIs all limits next → FindsNone ending ⊎ (is_refused ending ≡ true)
      by next f (Spends more is) = let same : NodesSpent None ≡ ending = cc in inr (ap is_refused (sym same))
      by next f (FindsNoPanel within none is) = let same : NoPanel ≡ ending = cc in inl (record { none = none; within = within; is = sym same })
      by next f (IsWide first pass found p is) = let same : TooWide None pass ≡ ending = cc in inr (ap is_refused (sym same))
      by next f (Begins first table found p is) = absurd cc

  -- ---- if a step ends the run

  -- no stage is open and all classes are settled, so the columns are spread
  pub record IsAnswered (table : Table) (ending : Ending) : Type 0 where
    pub shut : table.in_stage ≡ false
    pub settled : length table.sizes ≤ settled_count table
    pub is : ending ≡ answered all table (spread all (parts_of table))

  pub step_tells : (table : Table) (ending : Ending) → step all limits table ≡ Ended ending → IsAnswered table ending ⊎ (is_refused ending ≡ true)
  step_tells table ending e = by (step all limits table) e (step_is all limits table)
    where
      by : (next : Next) → next ≡ Ended ending → StepIs all limits table next → IsAnswered table ending ⊎ (is_refused ending ≡ true)
      by next f (Enters shut some is) = absurd cc
      by next f (Answers shut settled is) = let same : answered all table (spread all (parts_of table)) ≡ ending = cc in inl (record { shut = shut; settled = settled; is = sym same })
      by next f (NoPivot open_now most is) = let same : PivotsSpent table ≡ ending = cc in inr (ap is_refused (sym same))
      by next f (Pivots open_now r v after chosen few p is) = absurd cc
      by next f (Passes open_now r v pass chosen few p is) = let same : TooWide (Some table) pass ≡ ending = cc in inr (ap is_refused (sym same))
      by next f (NoVisits open_now done more is) = let same : NodesSpent (Some table) ≡ ending = cc in inr (ap is_refused (sym same))
      by next f (Widens open_now done counts p is) = absurd cc
      by next f (Closes open_now done p is) = absurd cc
