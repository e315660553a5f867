-- Each step of a run leaves less to do, so each run ends.
use Rattle.std.proofs.Common.{◌≡◌, ◌≢◌, ℕ, zero, suc, ◌+◌, ◌-◌, ◌*◌, ◌<◌, ◌≤◌, true, false, cond, List, length, Option, Some, None, Result, Ok, refl, sym, ap, ◌∙◌, subst, arith}
use Rattle.std.specs.Prelude.{slice_set}
use Rattle.define_pools.specs.Pool.{IsPool, Pool}
use Rattle.define_rows.specs.declared.Pass.{Pass}
use Rattle.define_rows.specs.declared.Var.{Var}
use Rattle.define_rows.specs.Choice.{choice}
use Rattle.define_rows.specs.InOrder.{settled_count}
use Rattle.define_rows.specs.Pivot.{pivot, rows_after}
use Rattle.define_rows.specs.Steps.{add_column, close_stage, closed_by, enter_stage}
use Rattle.define_rows.specs.Table.{Table}
use Rattle.define_rows.proofs.PivotLaws.{after-Ok_parts}
use Rattle.define_rows.proofs.StepsKeep.{some_settle}
use Rattle.define_searches.specs.Classes.{Classes, KeepsLimits, are_alike, classes_of}
use Rattle.define_searches.proofs.Limits.{limits_kept}
use Rattle.define_searches.proofs.AlikeClasses.{alike_makes}
use Rattle.define_runs.specs.Keeps.{AreLimits, AreRunLimits, KeepsRun}
use Rattle.define_runs.specs.Run.{Ending, Ended, Ends, GoOn, Limits, Next, RunEnds, RunLimits, follow, opening, run_limits, step}
use Rattle.define_runs.specs.Work.{turns_by, turns_left, work_left}
use Rattle.define_runs.proofs.Kept.{opening_kept, step_kept}
use Rattle.define_runs.proofs.Priced.{is_chosen}
use Rattle.define_runs.proofs.StepCases.{StepIs, Enters, Answers, NoPivot, Pivots, Passes, NoVisits, Widens, Closes, step_is}

-- ---- each step leaves less to do

turns_in_stage : (chosen : Option (ℕ × Var)) → (1 ≤ turns_by chosen) × (turns_by chosen ≤ 2)
turns_in_stage None = (omega arith, omega arith)
turns_in_stage (Some chosen) = (omega arith, omega arith)

in_stage_turns : (table : Table) → table.in_stage ≡ true → turns_left table ≡ turns_by (choice table)
in_stage_turns table open_now = ap (λ s. cond s (turns_by (choice table)) 3) open_now

shut_turns : (table : Table) → table.in_stage ≡ false → turns_left table ≡ 3
shut_turns table shut = ap (λ s. cond s (turns_by (choice table)) 3) shut

less_by_pivot : (limits : RunLimits) (table : Table) (r : ℕ) (v : Var) (made : Table) → table.in_stage ≡ true → table.pivots < limits.pivots → pivot table r v ≡ Ok made →
    work_left limits made < work_left limits table
unfolding work_left pivot
less_by_pivot limits table r v made open_now few e =
    let parts = after-Ok_parts (rows_after table r v) (λ rows. Ok (record table { rows = rows; basic = slice_set table.basic r v; pivots = table.pivots + 1 })) made e in
    let last : ◌≡◌ {A = Result Table Pass} (Ok (record table { rows = parts.0; basic = slice_set table.basic r v; pivots = table.pivots + 1 })) (Ok made) = parts.2 in
    let same : ◌≡◌ {A = Table} (record table { rows = parts.0; basic = slice_set table.basic r v; pivots = table.pivots + 1 }) made = cc in
    let sizes : length table.sizes ≡ length made.sizes = ap (λ t. length t.sizes) same in
    let settled : settled_count table ≡ settled_count made = ap settled_count same in
    let open_then : made.in_stage ≡ true = sym (ap (λ t. t.in_stage) same) ∙ open_now in
    let counted : table.pivots + 1 ≡ made.pivots = ap (λ t. t.pivots) same in
    omega (arith, sizes, settled, counted, few, in_stage_turns table open_now, in_stage_turns made open_then, turns_in_stage (choice table), turns_in_stage (choice made))

less_by_column : (limits : RunLimits) (table : Table) (counts : List ℕ) → table.in_stage ≡ true → choice table ≡ None → choice (add_column table counts) ≢ None →
    work_left limits (add_column table counts) < work_left limits table
unfolding work_left add_column
less_by_column limits table counts open_now done chosen =
    by (choice (add_column table counts)) refl
  where
    by : (o : Option (ℕ × Var)) → choice (add_column table counts) ≡ o →
        8 * (length table.sizes - settled_count table) + 4 * (limits.pivots - table.pivots) + turns_left (add_column table counts) < 8 * (length table.sizes - settled_count table) + 4 * (limits.pivots - table.pivots) + turns_left table
    by None e = absurd (chosen e)
    by (Some c) e =
        let now : turns_left table ≡ 2 = in_stage_turns table open_now ∙ ap turns_by done in
        let then : turns_left (add_column table counts) ≡ 1 = in_stage_turns (add_column table counts) open_now ∙ ap turns_by e in omega (arith, now, then)

less_by_close : (limits : RunLimits) (table : Table) → table.in_stage ≡ true → choice table ≡ None → settled_count table < length table.sizes → settled_count table < settled_count (close_stage table) →
    work_left limits (close_stage table) < work_left limits table
unfolding work_left closed_by
less_by_close limits table open_now done some more =
    let now : turns_left table ≡ 2 = in_stage_turns table open_now ∙ ap turns_by done in omega (arith, now, some, more)

less_by_enter : (limits : RunLimits) (table : Table) → table.in_stage ≡ false → work_left limits (enter_stage table) < work_left limits table
unfolding work_left enter_stage
less_by_enter limits table shut = omega (arith, shut_turns table shut, turns_in_stage (choice (enter_stage table)))

-- if the run goes on after a step, less is left to do
module _ (all : Classes) (limits : RunLimits) (table : Table) (limited : KeepsLimits all) (keeps : KeepsRun all limits table) where
  pub step_lessens : (made : Table) → step all limits table ≡ GoOn made → work_left limits made < work_left limits table
  step_lessens made e = by (step all limits table) e (step_is all limits table)
    where
      LeavesLess : Table → Type 0
      LeavesLess after = work_left limits after < work_left limits table

      by : (next : Next) → next ≡ GoOn made → StepIs all limits table next → LeavesLess made
      by next f (Enters shut some is) = let same : enter_stage table ≡ made = cc in subst LeavesLess same (less_by_enter limits table shut)
      by next f (Answers shut settled is) = absurd cc
      by next f (NoPivot open_now most is) = absurd cc
      by next f (Pivots open_now r v after chosen few p is) = let same : after ≡ made = cc in less_by_pivot limits table r v made open_now few (p ∙ ap Ok same)
      by next f (Passes open_now r v pass chosen few p is) = absurd cc
      by next f (NoVisits open_now done more is) = absurd cc
      by next f (Widens open_now done counts p is) =
          let same : add_column table counts ≡ made = cc in
          subst LeavesLess same (less_by_column limits table counts open_now done
          (is_chosen all limits table counts limited (record { keeps = keeps; open_now = open_now; done = done; found = p })))
      by next f (Closes open_now done p is) =
          let same : close_stage table ≡ made = cc in
          subst LeavesLess same (less_by_close limits table open_now done (keeps.in_order.open_unsettled open_now) (some_settle table keeps.in_order open_now done))

-- ---- the whole run

module _ (all : Classes) (limits : RunLimits) (limited : KeepsLimits all) (ranges : AreRunLimits limits) where
  -- from `next` on, a run ends after `steps` more steps, with this ending
  record ComesTo (next : Next) : Type 0 where
    ending : Ending
    steps : ℕ
    there : follow all limits next steps ≡ Ended ending

  after_step : (table : Table) → ComesTo (step all limits table) → ComesTo (GoOn table)
  after_step table rest = record { ending = rest.ending; steps = suc rest.steps; there = rest.there }

  comes_to : (more : ℕ) (table : Table) → KeepsRun all limits table → work_left limits table < more → ComesTo (GoOn table)
  comes_to zero table keeps few = absurd (omega arith)
  comes_to (suc more) table keeps few = after_step table (by (λ made kept fewer. comes_to more made kept fewer) (step all limits table) refl)
    where
      by : ((made : Table) → KeepsRun all limits made → work_left limits made < more → ComesTo (GoOn made)) → (next : Next) → step all limits table ≡ next → ComesTo next
      by rest (Ended ending) e = record { ending = ending; steps = 0; there = refl }
      by rest (GoOn made) e =
          let less = step_lessens all limits table limited keeps made e in rest made (step_kept all limits table keeps limited made e) (omega arith)

  pub every_end : (ending : Ending) × Ends all limits ending
  every_end = by (opening all limits) refl
    where
      told : ComesTo (opening all limits) → (ending : Ending) × Ends all limits ending
      told come = (come.ending, record { steps = come.steps; there = come.there })

      by : (next : Next) → opening all limits ≡ next → (ending : Ending) × Ends all limits ending
      by (Ended ending) e = (ending, record { steps = 0; there = e })
      by (GoOn table) e = told (subst ComesTo (sym e) (comes_to (suc (work_left limits table)) table (opening_kept all limits limited ranges table e) (omega arith)))

pub every_run_end : (pool : Pool) (limits : Limits) → IsPool pool → AreLimits limits → (ending : Ending) × RunEnds pool limits ending
every_run_end pool limits is_pool ranges =
    every_end (classes_of pool) (run_limits limits) (limits_kept pool (are_alike pool) is_pool (alike_makes pool)) ranges
