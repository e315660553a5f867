-- The opening of a run and each of its steps, case by case.
use Rattle.std.proofs.Common.{◌≡◌, ℕ, ◌<◌, ◌≤◌, Bool, true, false, cond, leb, ltb, List, length, Option, Some, None, Result, Ok, Err, refl}
use Rattle.std.proofs.lemmas.Bool.{leb-false, leb-true, ltb-false, ltb-true}
use Rattle.define_rows.specs.declared.Pass.{Pass}
use Rattle.define_rows.specs.declared.Var.{Var}
use Rattle.define_rows.specs.Choice.{choice}
use Rattle.define_rows.specs.InOrder.{settled_count}
use Rattle.define_rows.specs.Pivot.{pivot, start}
use Rattle.define_rows.specs.Steps.{add_column, close_stage, enter_stage, open_row}
use Rattle.define_rows.specs.Table.{Table, row_at}
use Rattle.define_searches.specs.Classes.{Classes}
use Rattle.define_searches.specs.Compositions.{first_composition, price}
use Rattle.define_searches.specs.Fronts.{sizes_of}
use Rattle.define_searches.specs.Visits.{first_search}
use Rattle.define_runs.specs.Spreading.{spread}
use Rattle.define_runs.specs.Run.{Next, GoOn, Ended, NoPanel, TooWide, NodesSpent, PivotsSpent, RunLimits, answered, closed_rows, opened, opening, parts_of, pivoted, priced, pricing_visits, started, step, step_in_stage}

-- the cases of a step from `table`. In each, `next` is where the step leads
pub data StepIs (all : Classes) (limits : RunLimits) (table : Table) (next : Next) : Type 0 where
  -- no stage is open, and not all are settled: a stage is entered
  Enters : table.in_stage ≡ false → settled_count table < length table.sizes → next ≡ GoOn (enter_stage table) → StepIs all limits table next
  -- no stage is open, and everybody is settled: the run ends with the answer, or because the total passes 10 ^ 38
  Answers : table.in_stage ≡ false → length table.sizes ≤ settled_count table → next ≡ Ended (answered all table (spread all (parts_of table))) → StepIs all limits table next
  -- a stage is open, and the budget of pivots is spent: the run ends
  NoPivot : table.in_stage ≡ true → limits.pivots ≤ table.pivots → next ≡ Ended (PivotsSpent table) → StepIs all limits table next
  -- a pivot is chosen, the budget allows it, and it stays within the width: it is made
  Pivots : table.in_stage ≡ true → (r : ℕ) (v : Var) (made : Table) → choice table ≡ Some (r, v) → table.pivots < limits.pivots → pivot table r v ≡ Ok made → next ≡ GoOn made → StepIs all limits table next
  -- a pivot is chosen, the budget allows it, and it passes the width: the run ends
  Passes : table.in_stage ≡ true → (r : ℕ) (v : Var) (pass : Pass) → choice table ≡ Some (r, v) → table.pivots < limits.pivots → pivot table r v ≡ Err pass → next ≡ Ended (TooWide (Some table) pass) → StepIs all limits table next
  -- no pivot is chosen, and pricing needs more visits than its budget: the run ends
  NoVisits : table.in_stage ≡ true → choice table ≡ None → limits.pricing < pricing_visits all (closed_rows table) (row_at table (open_row table)) → next ≡ Ended (NodesSpent (Some table)) → StepIs all limits table next
  -- no pivot is chosen, and pricing finds a composition: it becomes a column
  Widens : table.in_stage ≡ true → choice table ≡ None → (counts : List ℕ) → price all (closed_rows table) (row_at table (open_row table)) ≡ Some counts → next ≡ GoOn (add_column table counts) → StepIs all limits table next
  -- no pivot is chosen, and pricing finds no composition: the stage closes
  Closes : table.in_stage ≡ true → choice table ≡ None → price all (closed_rows table) (row_at table (open_row table)) ≡ None → next ≡ GoOn (close_stage table) → StepIs all limits table next

pub step_is : (all : Classes) (limits : RunLimits) (table : Table) → StepIs all limits table (step all limits table)
unfolding step
step_is all limits table = by table.in_stage refl
  where
    tried : table.in_stage ≡ true → (r : ℕ) (v : Var) → choice table ≡ Some (r, v) → table.pivots < limits.pivots → (outcome : Result Table Pass) → pivot table r v ≡ outcome → StepIs all limits table (pivoted table outcome)
    tried open_now r v chosen few (Ok made) p = Pivots open_now r v made chosen few p refl
    tried open_now r v chosen few (Err pass) p = Passes open_now r v pass chosen few p refl

    of_pivot : table.in_stage ≡ true → (r : ℕ) (v : Var) → choice table ≡ Some (r, v) → (b : Bool) → leb limits.pivots table.pivots ≡ b → StepIs all limits table (cond b (Ended (PivotsSpent table)) (pivoted table (pivot table r v)))
    of_pivot open_now r v chosen true t = NoPivot open_now (leb-true limits.pivots table.pivots t) refl
    of_pivot open_now r v chosen false t = tried open_now r v chosen (leb-false limits.pivots table.pivots t) (pivot table r v) refl

    found : table.in_stage ≡ true → choice table ≡ None → (outcome : Option (List ℕ)) → price all (closed_rows table) (row_at table (open_row table)) ≡ outcome → StepIs all limits table (priced table outcome)
    found open_now done (Some counts) p = Widens open_now done counts p refl
    found open_now done None p = Closes open_now done p refl

    of_price : table.in_stage ≡ true → choice table ≡ None → (b : Bool) → ltb limits.pricing (pricing_visits all (closed_rows table) (row_at table (open_row table))) ≡ b →
        StepIs all limits table (cond b (Ended (NodesSpent (Some table))) (priced table (price all (closed_rows table) (row_at table (open_row table)))))
    of_price open_now done true t = NoVisits open_now done (ltb-true limits.pricing (pricing_visits all (closed_rows table) (row_at table (open_row table))) t) refl
    of_price open_now done false t = found open_now done (price all (closed_rows table) (row_at table (open_row table))) refl

    in_stage : table.in_stage ≡ true → (chosen : Option (ℕ × Var)) → choice table ≡ chosen → StepIs all limits table (step_in_stage all limits table chosen)
    in_stage open_now (Some (r, v)) c = of_pivot open_now r v c (leb limits.pivots table.pivots) refl
    in_stage open_now None c = of_price open_now c (ltb limits.pricing (pricing_visits all (closed_rows table) (row_at table (open_row table)))) refl

    between : table.in_stage ≡ false → (b : Bool) → ltb (settled_count table) (length table.sizes) ≡ b →
        StepIs all limits table (cond b (GoOn (enter_stage table)) (Ended (answered all table (spread all (parts_of table)))))
    between shut true t = Enters shut (ltb-true (settled_count table) (length table.sizes) t) refl
    between shut false t = Answers shut (ltb-false (settled_count table) (length table.sizes) t) refl

    by : (b : Bool) → table.in_stage ≡ b → StepIs all limits table
        (cond b (step_in_stage all limits table (choice table)) (cond (ltb (settled_count table) (length table.sizes)) (GoOn (enter_stage table)) (Ended (answered all table (spread all (parts_of table))))))
    by true t = in_stage t (choice table) refl
    by false t = between t (ltb (settled_count table) (length table.sizes)) refl

-- the cases of the opening. In each, `next` is where the opening leads
pub data OpeningIs (all : Classes) (limits : RunLimits) (next : Next) : Type 0 where
  Spends : limits.opening < (first_search all).visits → next ≡ Ended (NodesSpent None) → OpeningIs all limits next
  FindsNoPanel : (first_search all).visits ≤ limits.opening → first_composition all ≡ None → next ≡ Ended NoPanel → OpeningIs all limits next
  IsWide : (first : List ℕ) (pass : Pass) → first_composition all ≡ Some first → start (sizes_of all) first limits.bits ≡ Err pass → next ≡ Ended (TooWide None pass) → OpeningIs all limits next
  Begins : (first : List ℕ) (table : Table) → first_composition all ≡ Some first → start (sizes_of all) first limits.bits ≡ Ok table → next ≡ GoOn table → OpeningIs all limits next

pub opening_is : (all : Classes) (limits : RunLimits) → OpeningIs all limits (opening all limits)
unfolding opening
opening_is all limits = by (ltb limits.opening (first_search all).visits) refl
  where
    of_start : (first : List ℕ) → first_composition all ≡ Some first → (outcome : Result Table Pass) → start (sizes_of all) first limits.bits ≡ outcome → OpeningIs all limits (started outcome)
    of_start first e (Ok table) p = Begins first table e p refl
    of_start first e (Err pass) p = IsWide first pass e p refl

    of_first : (first_search all).visits ≤ limits.opening → (found : Option (List ℕ)) → first_composition all ≡ found → OpeningIs all limits (opened all limits found)
    of_first within None e = FindsNoPanel within e refl
    of_first within (Some first) e = of_start first e (start (sizes_of all) first limits.bits) refl

    by : (b : Bool) → ltb limits.opening (first_search all).visits ≡ b → OpeningIs all limits (cond b (Ended (NodesSpent None)) (opened all limits (first_composition all)))
    by true t = Spends (ltb-true limits.opening (first_search all).visits t) refl
    by false t = of_first (ltb-false limits.opening (first_search all).visits t) (first_composition all) refl
