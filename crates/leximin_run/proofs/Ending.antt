-- How the run ends.
use Rattle.std.proofs.Common.{◌≡◌, ◌-◌, ◌^◌, ◌<◌, ◌≤◌, Bool, false, cond, ltb, List, length, map, Some, Ok, Err, refl, sym, ap, ◌∙◌, subst, arith}
use Rattle.std.specs.Prelude.{sum_by}
use Rattle.std.specs.List.{All}
use Rattle.std.proofs.lemmas.Bool.{le-ltb}
use Rattle.std.proofs.lemmas.List.Elements.{All-from_recursion, recursion_from_All}
use Rattle.define_pools.proofs.Each.{each_mapped}
use Rattle.define_legs.specs.declared.Leg.{Leg}
use Rattle.define_legs.specs.Legs.{EndsWithLegs, legs_after}
use Rattle.define_pools.specs.Lottery.{Lottery}
use Rattle.define_rows.specs.Choice.{choice}
use Rattle.define_rows.specs.InOrder.{IsInOrder, settled_count}
use Rattle.define_rows.specs.Row.{Row}
use Rattle.define_rows.specs.Steps.{enter_stage, fraction_of, solution}
use Rattle.define_rows.specs.Table.{Table}
use Rattle.define_rows.proofs.Satisfied.{solution-stands}
use Rattle.define_searches.specs.Classes.{Classes}
use Rattle.define_runs.specs.Spreading.{TotalPass, spread}
use Rattle.define_runs.specs.Keeps.{IsReached}
use Rattle.define_runs.specs.Run.{Ending, Ends, RunLimits, GoOn, Ended, Found, NodesSpent, PivotsSpent, TooWide, TotalPasses, answered, parts_of, stage_of, step, step_in_stage}
use Rattle.define_runs.proofs.Following.{comes_to_end, goes_on}
use Rattle.leximin_run.specs.declared.running.Refusal.{Refusal}
use Rattle.leximin_run.specs.declared.running.Refusal.TheVariants.{Wide, NoPivot, NoVisit, NoMemory}
use Rattle.define_runs.specs.Sharing.{with_pricing}
use Rattle.leximin_run.specs.Advancing.{HoldsFrom, Reaches, Refuses, Stands}
use Rattle.leximin_run.specs.Answers.{EndsFrom, Tells, stop_of}
use Rattle.leximin_run.specs.Tracing.{ReachesWithLegs}
use Rattle.leximin_run.proofs.Budgets.{from_both, from_none, from_one, stands_with}
use Rattle.leximin_run.proofs.LegSteps.{ends_with_legs, few_in_legs, goes_on_with_legs}

-- Each column of the solution is a column of the table.
pub known_columns : (table : Table) → IsInOrder table → All (λ part. part.0 < length table.columns) (map fraction_of (solution table))
known_columns table h =
    let stands = solution-stands table h in
    All-from_recursion (λ part. part.0 < length table.columns) (map fraction_of (solution table))
    (each_mapped (λ part. part.0 < length table.columns) fraction_of (solution table) (recursion_from_All (λ there. there.column < length table.columns) (solution table) stands.known))

answer_due : (all : Classes) (limits : RunLimits) (table : Table) → table.in_stage ≡ false → length table.sizes ≤ settled_count table → step all limits table ≡ Ended (answered all table (spread all (parts_of table)))
unfolding step
answer_due all limits table shut settled =
    ap (λ s. cond s (step_in_stage all limits table (choice table)) (cond (ltb (settled_count table) (length table.sizes)) (GoOn (enter_stage table)) (Ended (answered all table (spread all (parts_of table)))))) shut
    ∙ ap (λ s. cond s (GoOn (enter_stage table)) (Ended (answered all table (spread all (parts_of table))))) (le-ltb (settled_count table) (length table.sizes) settled)

module _ (share : Bool) (all : Classes) (limits : RunLimits) (table : Table) (closed : List Row) (reaches : Reaches share all limits table closed) where
  -- if each budget that allows the run until `table` allows the step to an ending, the run has this ending
  comes_to : (ending : Ending) → HoldsFrom share limits (λ free. step all free table ≡ Ended ending) → HoldsFrom share limits (λ free. Ends all free ending)
  comes_to ending h =
      from_both share limits (λ free. IsReached all free table) (λ free. step all free table ≡ Ended ending) (λ free. Ends all free ending)
      (λ pricing reached e. comes_to_end all (with_pricing limits pricing) table ending reached e) reaches.reached h

  pub found_at_end : table.in_stage ≡ false → length table.sizes ≤ settled_count table → (legs : List Leg) → HoldsFrom share limits (λ free. ReachesWithLegs all free table legs) →
      (lottery : Lottery) → spread all (parts_of table) ≡ Ok lottery →
      HoldsFrom share limits (λ free. EndsWithLegs all free (Found table (record { lottery = lottery; stages = map (stage_of all) closed })) legs)
  found_at_end shut settled legs with_legs lottery e =
      let ended = from_one share limits (λ free. ReachesWithLegs all free table legs) (λ free. EndsWithLegs all free (answered all table (Ok lottery)) legs)
      (λ pricing reaches. ends_with_legs all (with_pricing limits pricing) table legs (answered all table (Ok lottery)) reaches (answer_due all (with_pricing limits pricing) table shut settled ∙ ap (λ s. Ended (answered all table s)) e))
      with_legs in
      subst (λ rows. HoldsFrom share limits (λ free. EndsWithLegs all free (Found table (record { lottery = lottery; stages = map (stage_of all) rows })) legs)) (sym reaches.stands.closed_are) ended

  pub passed_at_end : table.in_stage ≡ false → length table.sizes ≤ settled_count table → (pass : TotalPass) → spread all (parts_of table) ≡ Err pass → EndsFrom share all limits (TotalPasses table pass)
  passed_at_end shut settled pass e =
      comes_to (answered all table (Err pass)) (from_none share limits (λ free. step all free table ≡ Ended (answered all table (Err pass)))
      (λ pricing. answer_due all (with_pricing limits pricing) table shut settled ∙ ap (λ s. Ended (answered all table s)) e))

  -- If a step is refused, the run ends with the stop that `stop_of` returns.
  pub refused_at : (refusal : Refusal) (after : Table) → Refuses share all limits table refusal after → Tells (EndsFrom share all limits) (Err (stop_of after refusal))
  refused_at (Wide pass) after told = subst (λ t. EndsFrom share all limits (TooWide (Some t) pass)) (sym told.1) (comes_to (TooWide (Some table) pass) told.0)
  refused_at NoPivot after told = (after, refl, subst (λ t. EndsFrom share all limits (PivotsSpent t)) (sym told.1) (comes_to (PivotsSpent table) told.0))
  refused_at NoVisit after told = subst (λ t. EndsFrom share all limits (NodesSpent (Some t))) (sym told.1) (reaches.reached, told.0)
  refused_at NoMemory after told = tt

  pub reaches_on : (after : Table) (rows : List Row) → HoldsFrom share limits (λ free. step all free table ≡ GoOn after) → Stands all limits after rows → Reaches share all limits after rows
  reaches_on after rows h stands = record {
    reached = from_both share limits (λ free. IsReached all free table) (λ free. step all free table ≡ GoOn after) (λ free. IsReached all free after)
        (λ pricing reached e. goes_on all (with_pricing limits pricing) table after reached e) reaches.reached h;
    stands = stands;
  }

  pub legs_on : (after : Table) (legs : List Leg) → HoldsFrom share limits (λ free. ReachesWithLegs all free table legs) → HoldsFrom share limits (λ free. step all free table ≡ GoOn after) →
      HoldsFrom share limits (λ free. ReachesWithLegs all free after (legs_after legs table after))
  legs_on after legs with_legs h =
      from_both share limits (λ free. ReachesWithLegs all free table legs) (λ free. step all free table ≡ GoOn after) (λ free. ReachesWithLegs all free after (legs_after legs table after))
      (λ pricing reaches e. goes_on_with_legs all (with_pricing limits pricing) table after legs reaches e) with_legs h

  -- the pivots of the legs are few
  pub few_so_far : (legs : List Leg) → HoldsFrom share limits (λ free. ReachesWithLegs all free table legs) → sum_by (λ leg. leg.pivots) legs < 2 ^ 64 - 1
  few_so_far legs with_legs =
      let then = stands_with all limits with_legs.least table closed reaches.stands in
      few_in_legs all (with_pricing limits with_legs.least) table legs then.limited then.ranges then.keeps.pivots (with_legs.holds with_legs.least (omega arith))
