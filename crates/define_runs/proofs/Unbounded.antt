-- The unbounded run: its steps, and its one ending.
use Rattle.std.proofs.Common.{◌≡◌, ℕ, zero, suc, ◌+◌, ◌<◌, ◌≤◌, cond, ltb, length, Option, Some, None, refl, sym, ap, ◌∙◌, arith}
use Rattle.std.proofs.lemmas.Bool.{le-ltb}
use Rattle.define_rows.specs.declared.Var.{Var}
use Rattle.define_rows.specs.Choice.{choice}
use Rattle.define_rows.specs.InOrder.{settled_count}
use Rattle.define_rows.specs.Steps.{enter_stage, open_row}
use Rattle.define_rows.specs.Table.{Table, row_at}
use Rattle.define_searches.specs.Classes.{Classes, KeepsLimits}
use Rattle.define_searches.specs.Compositions.{price}
use Rattle.define_runs.specs.Spreading.{spread}
use Rattle.define_runs.specs.Keeps.{AreRunLimits, KeepsRun}
use Rattle.define_runs.specs.Run.{Ended, Ending, GoOn, Next, NodesSpent, RunLimits, answered, closed_rows, follow, opening, parts_of, priced, pricing_visits, step, step_in_stage}
use Rattle.define_runs.specs.Work.{work_left}
use Rattle.define_runs.proofs.Following.{same_ending}
use Rattle.define_runs.proofs.Kept.{opening_kept, step_kept}
use Rattle.define_runs.proofs.Work.{step_lessens}
use Rattle.define_runs.specs.Sharing.{EndsUnbounded, with_pricing}

-- how many visits the pricing makes that would be due at this table
abbrev pub visits_at : Classes → Table → ℕ
visits_at all table = pricing_visits all (closed_rows table) (row_at table (open_row table))

module _ (all : Classes) (limits : RunLimits) where
  -- with budgets that are large enough for the pricing at a table, the step from it is the same
  in_stage_alike : (p q : ℕ) (table : Table) (chosen : Option (ℕ × Var)) → visits_at all table ≤ p → visits_at all table ≤ q →
      step_in_stage all (with_pricing limits p) table chosen ≡ step_in_stage all (with_pricing limits q) table chosen
  in_stage_alike p q table (Some (r, v)) l m = refl
  in_stage_alike p q table None l m =
      ap (λ b. cond b (Ended (NodesSpent (Some table))) (priced table (price all (closed_rows table) (row_at table (open_row table))))) (le-ltb p (visits_at all table) l ∙ sym (le-ltb q (visits_at all table) m))

  pub step_alike : (p q : ℕ) (table : Table) → visits_at all table ≤ p → visits_at all table ≤ q → step all (with_pricing limits p) table ≡ step all (with_pricing limits q) table
  unfolding step
  step_alike p q table l m =
      ap (λ next. cond table.in_stage next (cond (ltb (settled_count table) (length table.sizes)) (GoOn (enter_stage table)) (Ended (answered all table (spread all (parts_of table))))))
      (in_stage_alike p q table (choice table) l m)

  -- the opening doesn't depend on the budget of pricing
  pub opening_alike : (p q : ℕ) → opening all (with_pricing limits p) ≡ opening all (with_pricing limits q)
  unfolding opening
  opening_alike p q = refl

  work_alike : (p q : ℕ) (table : Table) → work_left (with_pricing limits p) table ≡ work_left (with_pricing limits q) table
  unfolding work_left
  work_alike p q table = refl

  -- what holds of a table of the run doesn't depend on the budget of pricing
  pub kept_alike : (p q : ℕ) (table : Table) → KeepsRun all (with_pricing limits p) table → KeepsRun all (with_pricing limits q) table
  kept_alike p q table keeps =
      record { in_order = keeps.in_order; sizes = keeps.sizes; width = keeps.width; pivots = keeps.pivots; columns = keeps.columns; priced_out = keeps.priced_out }

  -- ---- one ending

  pub one_unbounded : (first second : Ending) → EndsUnbounded all limits first → EndsUnbounded all limits second → first ≡ second
  one_unbounded first second a b =
      let pricing = a.least + b.least in
      let once = a.holds pricing (omega arith) in
      let again = b.holds pricing (omega arith) in
      same_ending all (with_pricing limits pricing) (opening all (with_pricing limits pricing)) once.steps again.steps first second once.there again.there

  -- ---- some ending

  module _ (limited : KeepsLimits all) (ranges : AreRunLimits limits) where
    ranges_alike : (p : ℕ) → AreRunLimits (with_pricing limits p)
    ranges_alike p = record { some_bits = ranges.some_bits; few_bits = ranges.few_bits; few_pivots = ranges.few_pivots }

    -- with each budget of pricing from `least` on, the run ends `steps` steps after `next`, with this ending
    record ComesTo (next : ℕ → Next) : Type 0 where
      ending : Ending
      steps : ℕ
      least : ℕ
      there : (pricing : ℕ) → least ≤ pricing → follow all (with_pricing limits pricing) (next pricing) steps ≡ Ended ending

    after_step : (table : Table) → ComesTo (λ pricing. step all (with_pricing limits pricing) table) → ComesTo (λ pricing. GoOn table)
    after_step table rest = record { ending = rest.ending; steps = suc rest.steps; least = rest.least; there = rest.there }

    comes_to : (more : ℕ) (table : Table) → KeepsRun all (with_pricing limits 0) table → work_left (with_pricing limits 0) table < more → ComesTo (λ pricing. GoOn table)
    comes_to zero table keeps few = absurd (omega arith)
    comes_to (suc more) table keeps few = after_step table (by (λ made kept fewer. comes_to more made kept fewer) (step all (with_pricing limits (visits_at all table)) table) refl)
      where
        due : ℕ
        due = visits_at all table

        alike : (next : Next) → step all (with_pricing limits due) table ≡ next → (pricing : ℕ) → due ≤ pricing → step all (with_pricing limits pricing) table ≡ next
        alike next e pricing l = step_alike pricing due table l (omega arith) ∙ e

        by : ((made : Table) → KeepsRun all (with_pricing limits 0) made → work_left (with_pricing limits 0) made < more → ComesTo (λ pricing. GoOn made)) →
            (next : Next) → step all (with_pricing limits due) table ≡ next → ComesTo (λ pricing. step all (with_pricing limits pricing) table)
        by rest (Ended ending) e = record { ending = ending; steps = 0; least = due; there = λ pricing l. alike (Ended ending) e pricing l }
        by rest (GoOn made) e =
            let keeps_due = kept_alike 0 due table keeps in
            let less = step_lessens all (with_pricing limits due) table limited keeps_due made e in
            let made_keeps = kept_alike due 0 made (step_kept all (with_pricing limits due) table keeps_due limited made e) in
            let on = rest made made_keeps (omega (arith, less, few, work_alike due 0 table, work_alike due 0 made)) in
            record {
              ending = on.ending;
              steps = on.steps;
              least = due + on.least;
              there = λ pricing l. ap (λ next. follow all (with_pricing limits pricing) next on.steps) (alike (GoOn made) e pricing (omega (arith, l))) ∙ on.there pricing (omega (arith, l));
            }

    pub each_unbounded : (ending : Ending) × EndsUnbounded all limits ending
    each_unbounded = by (opening all (with_pricing limits 0)) refl
      where
        told : ComesTo (λ pricing. opening all (with_pricing limits pricing)) → (ending : Ending) × EndsUnbounded all limits ending
        told come = (come.ending, record { least = come.least; holds = λ pricing l. record { steps = come.steps; there = come.there pricing l } })

        begun : (table : Table) → opening all (with_pricing limits 0) ≡ GoOn table → ComesTo (λ pricing. GoOn table) → ComesTo (λ pricing. opening all (with_pricing limits pricing))
        begun table e come = record {
          ending = come.ending;
          steps = come.steps;
          least = come.least;
          there = λ pricing l. ap (λ next. follow all (with_pricing limits pricing) next come.steps) (opening_alike pricing 0 ∙ e) ∙ come.there pricing l;
        }

        by : (next : Next) → opening all (with_pricing limits 0) ≡ next → (ending : Ending) × EndsUnbounded all limits ending
        by (Ended ending) e = (ending, record { least = 0; holds = λ pricing l. record { steps = 0; there = opening_alike pricing 0 ∙ e } })
        by (GoOn table) e =
            told (begun table e (comes_to (suc (work_left (with_pricing limits 0) table)) table (opening_kept all (with_pricing limits 0) limited (ranges_alike 0) table e) (omega arith)))
