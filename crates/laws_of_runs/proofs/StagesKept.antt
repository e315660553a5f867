-- Each table of a run keeps the record of which classes its closed stages settled.
use Rattle.std.proofs.Common.{◌≡◌, ℕ, zero, suc, Ok, refl, ap, ◌∙◌, subst}
use Rattle.define_rows.specs.Settled.{KeepsStages}
use Rattle.define_rows.specs.Steps.{add_column, close_stage, enter_stage}
use Rattle.define_rows.specs.Table.{Table}
use Rattle.define_rows.proofs.SettledKeep.{add-keeps_stages, close-keeps_stages, enter-keeps_stages, pivot-keeps_stages, start-keeps_stages}
use Rattle.define_searches.specs.Classes.{Classes, KeepsLimits}
use Rattle.define_searches.specs.Fronts.{sizes_of}
use Rattle.define_runs.specs.Keeps.{AreRunLimits, IsReached, KeepsRun}
use Rattle.define_runs.specs.Run.{RunLimits, Next, GoOn, Ended, follow, opening, step}
use Rattle.define_runs.proofs.StepCases.{StepIs, Enters, Answers, NoPivot, Pivots, Passes, NoVisits, Widens, Closes, step_is, OpeningIs, Spends, FindsNoPanel, IsWide, Begins, opening_is}
use Rattle.define_runs.proofs.Kept.{step_kept, reached_kept}

module _ (all : Classes) (limits : RunLimits) (table : Table) (keeps : KeepsRun all limits table) (stages : KeepsStages table) where
  -- if the run goes on after a step, the table that the step made keeps the record
  pub step_stages : (made : Table) → step all limits table ≡ GoOn made → KeepsStages made
  step_stages made e = by (step all limits table) e (step_is all limits table)
    where
      by : (next : Next) → next ≡ GoOn made → StepIs all limits table next → KeepsStages made
      by next f (Enters shut some is) =
          let same : enter_stage table ≡ made = cc in subst KeepsStages same (enter-keeps_stages table (record { in_order = keeps.in_order; shut = shut; unsettled = some }) stages)
      by next f (Answers shut settled is) = absurd cc
      by next f (NoPivot open_now most is) = absurd cc
      by next f (Pivots open_now r v after chosen few p is) =
          let same : after ≡ made = cc in
          pivot-keeps_stages table made r v (record { in_order = keeps.in_order; open_now = open_now; chosen = chosen; pivoted = p ∙ ap Ok same }) stages
      by next f (Passes open_now r v pass chosen few p is) = absurd cc
      by next f (NoVisits open_now done more is) = absurd cc
      by next f (Widens open_now done counts p is) = let same : add_column table counts ≡ made = cc in subst KeepsStages same (add-keeps_stages table counts stages)
      by next f (Closes open_now done p is) =
          let same : close_stage table ≡ made = cc in
          subst KeepsStages same (close-keeps_stages table (record { in_order = keeps.in_order; open_now = open_now; done = done }) stages)

module _ (all : Classes) (limits : RunLimits) (limited : KeepsLimits all) (ranges : AreRunLimits limits) where
  opening_stages : (made : Table) → opening all limits ≡ GoOn made → KeepsStages made
  opening_stages made e = by (opening all limits) e (opening_is all limits)
    where
      by : (next : Next) → next ≡ GoOn made → OpeningIs all limits next → KeepsStages made
      by next f (Spends more is) = absurd cc
      by next f (FindsNoPanel within none is) = absurd cc
      by next f (IsWide first pass found p is) = absurd cc
      by next f (Begins first table found p is) = let same : table ≡ made = cc in start-keeps_stages (sizes_of all) first limits.bits made (p ∙ ap Ok same)

  followed_stages : (next : Next) → ((table : Table) → next ≡ GoOn table → KeepsRun all limits table × KeepsStages table) → (n : ℕ) (made : Table) → follow all limits next n ≡ GoOn made → KeepsStages made
  followed_stages next h zero made e = (h made e).1
  followed_stages (Ended ending) h (suc n) made e = absurd cc
  followed_stages (GoOn table) h (suc n) made e =
      let now = h table refl in
      followed_stages (step all limits table) (λ after f. (step_kept all limits table now.0 limited after f, step_stages all limits table now.0 now.1 after f)) n made e

  pub reached_stages : (table : Table) → IsReached all limits table → KeepsStages table
  reached_stages table reached =
      followed_stages (opening all limits)
      (λ made e. (reached_kept all limits limited ranges made (record { steps = 0; there = e }), opening_stages made e))
      reached.steps table reached.there
