-- A run whose ending is not a spent budget has the same ending with greater budgets.
use Rattle.std.proofs.Common.{◌≡◌, ℕ, zero, suc, ◌≤◌, Bool, true, false, cond, leb, ltb, List, length, Option, Some, None, refl, sym, ap, ◌∙◌, arith}
use Rattle.std.proofs.lemmas.Bool.{false_from_ne_true, leb-false, leb-true, ltb-false, ltb-true}
use Rattle.define_rows.specs.declared.Var.{Var}
use Rattle.define_rows.specs.Choice.{choice}
use Rattle.define_rows.specs.InOrder.{settled_count}
use Rattle.define_rows.specs.Pivot.{pivot, start}
use Rattle.define_rows.specs.Steps.{enter_stage, open_row}
use Rattle.define_rows.specs.Table.{Table, row_at}
use Rattle.define_searches.specs.Classes.{Classes}
use Rattle.define_searches.specs.Compositions.{first_composition, price}
use Rattle.define_searches.specs.Fronts.{sizes_of}
use Rattle.define_searches.specs.Visits.{first_search}
use Rattle.define_runs.specs.Spreading.{spread}
use Rattle.define_runs.specs.OtherLimits.{is_spent}
use Rattle.define_runs.specs.Run.{RunLimits, Ending, Ends, Next, GoOn, Ended, NodesSpent, PivotsSpent, answered, closed_rows, follow, opened, opening, parts_of, pivoted, priced, pricing_visits, started, step, step_in_stage}
use Rattle.define_runs.proofs.Following.{stays_ended}

-- `more` has the width of `limits`, and budgets that are at least as great
pub record HasMore (limits more : RunLimits) : Type 0 where
  pub bits : more.bits ≡ limits.bits
  pub pivots : limits.pivots ≤ more.pivots
  pub opening : limits.opening ≤ more.opening
  pub pricing : limits.pricing ≤ more.pricing

abbrev is_spent_next : Next → Bool
is_spent_next (GoOn table) = false
is_spent_next (Ended ending) = is_spent ending

pub still_within : (n m k : ℕ) → n ≤ m → leb n k ≡ false → leb m k ≡ false
still_within n m k l e = false_from_ne_true (leb m k) (λ t. absurd (omega (arith, l, leb-false n k e, leb-true m k t)))

pub still_enough : (n m k : ℕ) → n ≤ m → ltb n k ≡ false → ltb m k ≡ false
still_enough n m k l e = false_from_ne_true (ltb m k) (λ t. absurd (omega (arith, l, ltb-false n k e, ltb-true m k t)))

module _ (all : Classes) (limits more : RunLimits) (has : HasMore limits more) where
  in_stage_same : (table : Table) (chosen : Option (ℕ × Var)) → is_spent_next (step_in_stage all limits table chosen) ≡ false → step_in_stage all more table chosen ≡ step_in_stage all limits table chosen
  in_stage_same table (Some (r, v)) kept = by (leb limits.pivots table.pivots) refl kept
    where
      by : (b : Bool) → leb limits.pivots table.pivots ≡ b → is_spent_next (cond b (Ended (PivotsSpent table)) (pivoted table (pivot table r v))) ≡ false →
          cond (leb more.pivots table.pivots) (Ended (PivotsSpent table)) (pivoted table (pivot table r v)) ≡ cond b (Ended (PivotsSpent table)) (pivoted table (pivot table r v))
      by true t kept = absurd cc
      by false t kept = ap (λ b. cond b (Ended (PivotsSpent table)) (pivoted table (pivot table r v))) (still_within limits.pivots more.pivots table.pivots has.pivots t)
  in_stage_same table None kept = by (ltb limits.pricing (pricing_visits all (closed_rows table) (row_at table (open_row table)))) refl kept
    where
      due : ℕ
      due = pricing_visits all (closed_rows table) (row_at table (open_row table))

      next : Next
      next = priced table (price all (closed_rows table) (row_at table (open_row table)))

      by : (b : Bool) → ltb limits.pricing due ≡ b → is_spent_next (cond b (Ended (NodesSpent (Some table))) next) ≡ false →
          cond (ltb more.pricing due) (Ended (NodesSpent (Some table))) next ≡ cond b (Ended (NodesSpent (Some table))) next
      by true t kept = absurd cc
      by false t kept = ap (λ b. cond b (Ended (NodesSpent (Some table))) next) (still_enough limits.pricing more.pricing due has.pricing t)

  step_same : (table : Table) → is_spent_next (step all limits table) ≡ false → step all more table ≡ step all limits table
  unfolding step
  step_same table kept = by table.in_stage kept
    where
      between : Next
      between = cond (ltb (settled_count table) (length table.sizes)) (GoOn (enter_stage table)) (Ended (answered all table (spread all (parts_of table))))

      by : (b : Bool) → is_spent_next (cond b (step_in_stage all limits table (choice table)) between) ≡ false →
          cond b (step_in_stage all more table (choice table)) between ≡ cond b (step_in_stage all limits table (choice table)) between
      by true kept = in_stage_same table (choice table) kept
      by false kept = refl

  opened_same : (found : Option (List ℕ)) → opened all more found ≡ opened all limits found
  opened_same None = refl
  opened_same (Some first) = ap (λ bits. started (start (sizes_of all) first bits)) has.bits

  opening_same : is_spent_next (opening all limits) ≡ false → opening all more ≡ opening all limits
  unfolding opening
  opening_same kept = by (ltb limits.opening (first_search all).visits) refl kept
    where
      by : (b : Bool) → ltb limits.opening (first_search all).visits ≡ b → is_spent_next (cond b (Ended (NodesSpent None)) (opened all limits (first_composition all))) ≡ false →
          cond (ltb more.opening (first_search all).visits) (Ended (NodesSpent None)) (opened all more (first_composition all)) ≡ cond b (Ended (NodesSpent None)) (opened all limits (first_composition all))
      by true t kept = absurd cc
      by false t kept =
          ap (λ b. cond b (Ended (NodesSpent None)) (opened all more (first_composition all))) (still_enough limits.opening more.opening (first_search all).visits has.opening t)
          ∙ opened_same (first_composition all)

  -- ---- the whole run

  not_spent : (next : Next) (n : ℕ) (ending : Ending) → follow all limits next n ≡ Ended ending → is_spent ending ≡ false → is_spent_next next ≡ false
  not_spent (GoOn table) n ending e kept = refl
  not_spent (Ended other) n ending e kept = let stays = stays_ended all limits other n in let same : other ≡ ending = cc in ap is_spent same ∙ kept

  follow_same : (next : Next) (n : ℕ) (ending : Ending) → follow all limits next n ≡ Ended ending → is_spent ending ≡ false → follow all more next n ≡ Ended ending
  follow_same (Ended other) n ending e kept = stays_ended all more other n ∙ sym (stays_ended all limits other n) ∙ e
  follow_same (GoOn table) zero ending e kept = absurd cc
  follow_same (GoOn table) (suc n) ending e kept =
      ap (λ next. follow all more next n) (step_same table (not_spent (step all limits table) n ending e kept)) ∙ follow_same (step all limits table) n ending e kept

  pub ends_same : (ending : Ending) → Ends all limits ending → is_spent ending ≡ false → Ends all more ending
  ends_same ending ends kept = record {
    steps = ends.steps;
    there = ap (λ next. follow all more next ends.steps) (opening_same (not_spent (opening all limits) ends.steps ending ends.there kept)) ∙ follow_same (opening all limits) ends.steps ending ends.there kept;
  }
