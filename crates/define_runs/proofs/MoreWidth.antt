-- A run that ended with an answer has the same answer under greater limits. A run that ended with `NoPanel` ends with it again.
use Rattle.std.proofs.Common.{◌≡◌, ℕ, zero, suc, ◌≤◌, Bool, true, false, cond, leb, ltb, List, [], length, map, Option, Some, None, Result, Ok, Err, refl, sym, ap, ◌∙◌, subst, arith}
use Rattle.std.specs.Prelude.{slice_index_or}
use Rattle.define_pools.specs.Lottery.{Lottery}
use Rattle.define_rows.specs.declared.Pass.{Pass}
use Rattle.define_rows.specs.declared.Var.{Var}
use Rattle.define_rows.specs.Choice.{choice}
use Rattle.define_rows.specs.InOrder.{settled_count}
use Rattle.define_rows.specs.Pivot.{pivot, start}
use Rattle.define_rows.specs.Steps.{add_column, close_stage, enter_stage, fraction_of, open_row}
use Rattle.define_rows.specs.Table.{Table, row_at}
use Rattle.define_searches.specs.Classes.{Classes}
use Rattle.define_searches.specs.Compositions.{first_composition, price}
use Rattle.define_searches.specs.Fronts.{sizes_of}
use Rattle.define_searches.specs.Visits.{first_search}
use Rattle.define_runs.specs.Spreading.{TotalPass, spread}
use Rattle.define_runs.specs.Run.{RunLimits, Ending, Ends, Next, GoOn, Ended, NoPanel, Found, TooWide, TotalPasses, NodesSpent, PivotsSpent, answered, closed_rows, follow, opened, opening, parts_of, pivoted, priced, pricing_visits, started, step, step_in_stage}
use Rattle.define_runs.proofs.Following.{stays_ended}
use Rattle.define_runs.proofs.MoreBudget.{still_enough, still_within}
use Rattle.define_runs.proofs.StepCases.{StepIs, Enters, Answers, NoPivot, Pivots, Passes, NoVisits, Widens, Closes, step_is}
use Rattle.define_runs.proofs.Wider.{add_width, added_wider, choice_same, close_width, closed_wider, enter_width, entered_wider, pivot_lasts, pivot_width, solution_same, start_lasts, start_width, wider}

-- each limit of `more` is at least that of `limits`
pub record Allows (limits more : RunLimits) : Type 0 where
  pub bits : limits.bits ≤ more.bits
  pub pivots : limits.pivots ≤ more.pivots
  pub opening : limits.opening ≤ more.opening
  pub pricing : limits.pricing ≤ more.pricing

-- true if the run stopped before it had a result, which is an answer or that there is no panel
abbrev pub stops : Ending → Bool
stops NoPanel = false
stops (Found last answer) = false
stops (TooWide stood pass) = true
stops (TotalPasses stood pass) = true
stops (PivotsSpent stood) = true
stops (NodesSpent stood) = true

abbrev stops_next : Next → Bool
stops_next (GoOn table) = false
stops_next (Ended ending) = stops ending

-- the same ending; if it is an answer, the last table has the width `bits`
abbrev pub wider_ending : ℕ → Ending → Ending
wider_ending bits NoPanel = NoPanel
wider_ending bits (Found last answer) = Found (wider bits last) answer
wider_ending bits (TooWide stood pass) = TooWide stood pass
wider_ending bits (TotalPasses stood pass) = TotalPasses stood pass
wider_ending bits (PivotsSpent stood) = PivotsSpent stood
wider_ending bits (NodesSpent stood) = NodesSpent stood

abbrev wider_next : ℕ → Next → Next
wider_next bits (GoOn table) = GoOn (wider bits table)
wider_next bits (Ended ending) = Ended (wider_ending bits ending)

-- if the run goes on, the width of its table is at most `bits`
abbrev IsWithin : ℕ → Next → Type 0
IsWithin bits (GoOn table) = table.bits ≤ bits
IsWithin bits (Ended ending) = Unit {0}

module _ (all : Classes) (limits more : RunLimits) (allows : Allows limits more) where
  -- ---- one step

  module _ (table : Table) (within : table.bits ≤ more.bits) where
    abbrev row_due : ℕ
    row_due = pricing_visits all (closed_rows table) (row_at table (open_row table))

    pivoted_wider : (r : ℕ) (v : Var) (outcome : Result Table Pass) → pivot table r v ≡ outcome → stops_next (pivoted table outcome) ≡ false →
        pivoted (wider more.bits table) (pivot (wider more.bits table) r v) ≡ wider_next more.bits (pivoted table outcome)
    pivoted_wider r v (Ok made) e kept = ap (pivoted (wider more.bits table)) (pivot_lasts more.bits table within r v made e)
    pivoted_wider r v (Err pass) e kept = absurd cc

    priced_wider : (found : Option (List ℕ)) → priced (wider more.bits table) found ≡ wider_next more.bits (priced table found)
    priced_wider None = ap GoOn (closed_wider more.bits table)
    priced_wider (Some counts) = ap GoOn (added_wider more.bits table counts)

    in_stage_wider : (chosen : Option (ℕ × Var)) → stops_next (step_in_stage all limits table chosen) ≡ false → step_in_stage all more (wider more.bits table) chosen ≡ wider_next more.bits (step_in_stage all limits table chosen)
    in_stage_wider (Some (r, v)) kept = by (leb limits.pivots table.pivots) refl kept
      where
        by : (b : Bool) → leb limits.pivots table.pivots ≡ b → stops_next (cond b (Ended (PivotsSpent table)) (pivoted table (pivot table r v))) ≡ false →
            cond (leb more.pivots table.pivots) (Ended (PivotsSpent (wider more.bits table))) (pivoted (wider more.bits table) (pivot (wider more.bits table) r v))
            ≡ wider_next more.bits (cond b (Ended (PivotsSpent table)) (pivoted table (pivot table r v)))
        by true t kept = absurd cc
        by false t kept =
            ap (λ b. cond b (Ended (PivotsSpent (wider more.bits table))) (pivoted (wider more.bits table) (pivot (wider more.bits table) r v))) (still_within limits.pivots more.pivots table.pivots allows.pivots t)
            ∙ pivoted_wider r v (pivot table r v) refl kept
    in_stage_wider None kept = by (ltb limits.pricing row_due) refl kept
      where
        by : (b : Bool) → ltb limits.pricing row_due ≡ b → stops_next (cond b (Ended (NodesSpent (Some table))) (priced table (price all (closed_rows table) (row_at table (open_row table))))) ≡ false →
            cond (ltb more.pricing row_due) (Ended (NodesSpent (Some (wider more.bits table)))) (priced (wider more.bits table) (price all (closed_rows table) (row_at table (open_row table))))
            ≡ wider_next more.bits (cond b (Ended (NodesSpent (Some table))) (priced table (price all (closed_rows table) (row_at table (open_row table)))))
        by true t kept = absurd cc
        by false t kept =
            ap (λ b. cond b (Ended (NodesSpent (Some (wider more.bits table)))) (priced (wider more.bits table) (price all (closed_rows table) (row_at table (open_row table)))))
            (still_enough limits.pricing more.pricing row_due allows.pricing t)
            ∙ priced_wider (price all (closed_rows table) (row_at table (open_row table)))

    parts_same : parts_of (wider more.bits table) ≡ parts_of table
    parts_same = ap (λ values. map (λ (c, value). (slice_index_or table.columns c [], value)) (map fraction_of values)) (solution_same more.bits table)

    answered_wider : (outcome : Result Lottery TotalPass) → stops (answered all table outcome) ≡ false → answered all (wider more.bits table) outcome ≡ wider_ending more.bits (answered all table outcome)
    answered_wider (Ok lottery) kept = refl
    answered_wider (Err pass) kept = absurd cc

    step_wider : stops_next (step all limits table) ≡ false → step all more (wider more.bits table) ≡ wider_next more.bits (step all limits table)
    unfolding step
    step_wider kept = by table.in_stage kept
      where
        between : (b : Bool) → stops_next (cond b (GoOn (enter_stage table)) (Ended (answered all table (spread all (parts_of table))))) ≡ false →
            cond b (GoOn (enter_stage (wider more.bits table))) (Ended (answered all (wider more.bits table) (spread all (parts_of (wider more.bits table)))))
            ≡ wider_next more.bits (cond b (GoOn (enter_stage table)) (Ended (answered all table (spread all (parts_of table)))))
        between true kept = ap GoOn (entered_wider more.bits table)
        between false kept =
            ap (λ parts. Ended (answered all (wider more.bits table) (spread all parts))) parts_same ∙ ap Ended (answered_wider (spread all (parts_of table)) kept)

        by : (b : Bool) → stops_next (cond b (step_in_stage all limits table (choice table)) (cond (ltb (settled_count table) (length table.sizes)) (GoOn (enter_stage table)) (Ended (answered all table (spread all (parts_of table)))))) ≡ false →
            cond b (step_in_stage all more (wider more.bits table) (choice (wider more.bits table)))
            (cond (ltb (settled_count table) (length table.sizes)) (GoOn (enter_stage (wider more.bits table))) (Ended (answered all (wider more.bits table) (spread all (parts_of (wider more.bits table))))))
            ≡ wider_next more.bits (cond b (step_in_stage all limits table (choice table)) (cond (ltb (settled_count table) (length table.sizes)) (GoOn (enter_stage table)) (Ended (answered all table (spread all (parts_of table))))))
        by true kept = ap (step_in_stage all more (wider more.bits table)) (choice_same more.bits table) ∙ in_stage_wider (choice table) kept
        by false kept = between (ltb (settled_count table) (length table.sizes)) kept

  -- ---- the width of the tables

  -- if the width of a table is at most that of `more`, so is the width of the table after a step
  within_next : (table : Table) → table.bits ≤ more.bits → IsWithin more.bits (step all limits table)
  within_next table within = by (step all limits table) (step_is all limits table)
    where
      kept : (made : Table) → made.bits ≡ table.bits → made.bits ≤ more.bits
      kept made e = omega (arith, e, within)

      by : (next : Next) → StepIs all limits table next → IsWithin more.bits next
      by next (Enters shut some is) = subst (IsWithin more.bits) (sym is) (kept (enter_stage table) (enter_width table))
      by next (Answers shut settled is) = subst (IsWithin more.bits) (sym is) tt
      by next (NoPivot open_now most is) = subst (IsWithin more.bits) (sym is) tt
      by next (Pivots open_now r v made chosen few p is) = subst (IsWithin more.bits) (sym is) (kept made (pivot_width table r v made p))
      by next (Passes open_now r v pass chosen few p is) = subst (IsWithin more.bits) (sym is) tt
      by next (NoVisits open_now done many is) = subst (IsWithin more.bits) (sym is) tt
      by next (Widens open_now done counts p is) = subst (IsWithin more.bits) (sym is) (kept (add_column table counts) (add_width table counts))
      by next (Closes open_now done p is) = subst (IsWithin more.bits) (sym is) (kept (close_stage table) (close_width table))

  -- ---- the opening

  opened_wider : (found : Option (List ℕ)) → stops_next (opened all limits found) ≡ false → (opened all more found ≡ wider_next more.bits (opened all limits found)) × IsWithin more.bits (opened all limits found)
  opened_wider None kept = (refl, tt)
  opened_wider (Some first) kept = by (start (sizes_of all) first limits.bits) refl kept
    where
      by : (outcome : Result Table Pass) → start (sizes_of all) first limits.bits ≡ outcome → stops_next (started outcome) ≡ false →
          (started (start (sizes_of all) first more.bits) ≡ wider_next more.bits (started outcome)) × IsWithin more.bits (started outcome)
      by (Ok table) e kept =
          (ap started (start_lasts (sizes_of all) first limits.bits more.bits table allows.bits e), omega (arith, allows.bits, start_width (sizes_of all) first limits.bits table e))
      by (Err pass) e kept = absurd cc

  opening_wider : stops_next (opening all limits) ≡ false → (opening all more ≡ wider_next more.bits (opening all limits)) × IsWithin more.bits (opening all limits)
  unfolding opening
  opening_wider kept = by (ltb limits.opening (first_search all).visits) refl kept
    where
      by : (b : Bool) → ltb limits.opening (first_search all).visits ≡ b → stops_next (cond b (Ended (NodesSpent None)) (opened all limits (first_composition all))) ≡ false →
          (cond (ltb more.opening (first_search all).visits) (Ended (NodesSpent None)) (opened all more (first_composition all)) ≡ wider_next more.bits (cond b (Ended (NodesSpent None)) (opened all limits (first_composition all))))
          × IsWithin more.bits (cond b (Ended (NodesSpent None)) (opened all limits (first_composition all)))
      by true t kept = absurd cc
      by false t kept =
          let made = opened_wider (first_composition all) kept in (
            ap (λ b. cond b (Ended (NodesSpent None)) (opened all more (first_composition all))) (still_enough limits.opening more.opening (first_search all).visits allows.opening t) ∙ made.0,
            made.1,
          )

  -- ---- the whole run

  not_stopped : (next : Next) (n : ℕ) (ending : Ending) → follow all limits next n ≡ Ended ending → stops ending ≡ false → stops_next next ≡ false
  not_stopped (GoOn table) n ending e kept = refl
  not_stopped (Ended other) n ending e kept = let stays = stays_ended all limits other n in let same : other ≡ ending = cc in ap stops same ∙ kept

  follow_wider : (next : Next) (n : ℕ) (ending : Ending) → IsWithin more.bits next → follow all limits next n ≡ Ended ending → stops ending ≡ false → follow all more (wider_next more.bits next) n ≡ Ended (wider_ending more.bits ending)
  follow_wider (Ended other) n ending within e kept =
      let stays = stays_ended all limits other n in let same : other ≡ ending = cc in stays_ended all more (wider_ending more.bits other) n ∙ ap (λ ending. Ended (wider_ending more.bits ending)) same
  follow_wider (GoOn table) zero ending within e kept = absurd cc
  follow_wider (GoOn table) (suc n) ending within e kept =
      ap (λ next. follow all more next n) (step_wider table within (not_stopped (step all limits table) n ending e kept))
      ∙ follow_wider (step all limits table) n ending (within_next table within) e kept

  pub ends_wider : (ending : Ending) → Ends all limits ending → stops ending ≡ false → Ends all more (wider_ending more.bits ending)
  ends_wider ending ends kept =
      let begun = opening_wider (not_stopped (opening all limits) ends.steps ending ends.there kept) in
      record { steps = ends.steps; there = ap (λ next. follow all more next ends.steps) begun.0 ∙ follow_wider (opening all limits) ends.steps ending begun.1 ends.there kept }
