-- The run: from a pool and limits to a lottery with its stages, to the result that there is no panel, or to the first step that is refused.
-- Builds on the table, the searches and spreading. An auditor of `lottery` reads this file.
use Rattle.std.specs.Prelude.{◌≡◌, ℕ, zero, suc, nat_lt, nat_le, if◌then◌else◌, List, [], map, length, slice_index_or, Option, Some, None, Result, Ok, Err}
use Rattle.std.specs.List.{range_with_len}
use Rattle.frac128.specs.Fractions.{Fraction}
use Rattle.define_pools.specs.Certificate.{Answer, Stage}
use Rattle.define_pools.specs.Lottery.{Lottery}
use Rattle.define_pools.specs.Pool.{Pool}
use Rattle.define_rows.specs.declared.Pass.{Pass}
use Rattle.define_rows.specs.declared.Var.{Var}
use Rattle.define_rows.specs.Row.{Row, entry}
use Rattle.define_rows.specs.Table.{Table, row_at}
use Rattle.define_rows.specs.InOrder.{settled_count}
use Rattle.define_rows.specs.Pivot.{start, pivot}
use Rattle.define_rows.specs.Choice.{choice}
use Rattle.define_rows.specs.Steps.{enter_stage, close_stage, add_column, open_row, fraction_of, solution}
use Rattle.define_searches.specs.Classes.{Classes, class_number, classes_of, volunteer_count}
use Rattle.define_searches.specs.Compositions.{first_composition, price}
use Rattle.define_searches.specs.Fronts.{sizes_of}
use Rattle.define_searches.specs.Visits.{first_search}
use Rattle.define_runs.specs.Spreading.{TotalPass, spread}
use Rattle.define_searches.specs.Waves.{best_in_waves}

-- the width in bits, how many pivots the run may make, and how many visits each of its searches may make
pub record Limits : Type 0 where
  pub bits : ℕ
  pub pivots : ℕ
  pub nodes : ℕ

-- the limits as the run uses them: the opening search and each pricing have budgets of their own
pub record RunLimits : Type 0 where
  pub bits : ℕ
  pub pivots : ℕ
  -- how many visits the opening search may make
  pub opening : ℕ
  -- how many visits a pricing may make
  pub pricing : ℕ

-- the limits of a run: the opening search and each pricing have the same budget
abbrev pub run_limits : Limits → RunLimits
run_limits limits = record { bits = limits.bits; pivots = limits.pivots; opening = limits.nodes; pricing = limits.nodes }

-- how a run ends. A refusal comes with the table before the refused step, or None if there was no table yet
pub data Ending : Type 0 where
  -- there is no composition
  NoPanel : Ending
  -- a lottery and its stages, with the last table
  Found : (last : Table) (answer : Answer) → Ending
  -- an operation passes the width
  TooWide : (stood : Option Table) (pass : Pass) → Ending
  -- the total of the lottery passes 10 ^ 38
  TotalPasses : (stood : Table) (pass : TotalPass) → Ending
  -- a pivot is chosen, and the budget of pivots is spent
  PivotsSpent : (stood : Table) → Ending
  -- a search needs more visits than its budget
  NodesSpent : (stood : Option Table) → Ending

-- after a step: the run goes on from a table, or has ended
pub data Next : Type 0 where
  GoOn : (table : Table) → Next
  Ended : (ending : Ending) → Next

-- the rows of the closed stages, in the order in which the stages were closed
abbrev pub closed_rows : Table → List Row
closed_rows table = map (row_at table) table.closed

-- the stage of a closed row: its right side is the cap, and a volunteer weighs the entry of their class
abbrev pub stage_of : Classes → Row → Stage
stage_of all row = record {
  weights = map (λ i. entry row (class_number all.classes i)) (range_with_len 0 (volunteer_count all));
  cap = row.b;
}

-- the columns of positive value, each a composition with its fraction
abbrev pub parts_of : Table → List (List ℕ × Fraction)
parts_of table = map (λ (c, value). (slice_index_or table.columns c [], value)) (map fraction_of (solution table))

-- the ending once everybody is settled: the lottery over which the columns are spread, with the closed rows as its stages
abbrev pub answered : Classes → Table → Result Lottery TotalPass → Ending
answered all table (Ok lottery) = Found table (record { lottery = lottery; stages = map (stage_of all) (closed_rows table) })
answered all table (Err pass) = TotalPasses table pass

-- after a pivot: the run goes on from the table that was made, or ends because an operation passes the width
abbrev pub pivoted : Table → Result Table Pass → Next
pivoted table (Ok made) = GoOn made
pivoted table (Err pass) = Ended (TooWide (Some table) pass)

-- after pricing: a composition that was found becomes a column; if none was found, the stage closes
abbrev pub priced : Table → Option (List ℕ) → Next
priced table (Some counts) = GoOn (add_column table counts)
priced table None = GoOn (close_stage table)

-- how many visits a pricing makes if its pieces are searched in waves
unfoldable pub pricing_visits : Classes → List Row → Row → ℕ
pricing_visits all closed row = (best_in_waves all closed row).visits

-- while a stage is open: the chosen pivot is made, unless the budget is spent; if none is chosen, the open row is priced
abbrev pub step_in_stage : Classes → RunLimits → Table → Option (ℕ × Var) → Next
step_in_stage all limits table (Some (r, v)) = if nat_le limits.pivots table.pivots then Ended (PivotsSpent table) else pivoted table (pivot table r v)
step_in_stage all limits table None =
    let row = row_at table (open_row table) in
    if nat_lt limits.pricing (pricing_visits all (closed_rows table) row) then Ended (NodesSpent (Some table))
    else priced table (price all (closed_rows table) row)

-- one step from a table. If no stage is open, the next one is entered, or the run ends with its answer once everybody is settled
unfoldable pub step : Classes → RunLimits → Table → Next
step all limits table =
    if table.in_stage then step_in_stage all limits table (choice table)
    else if nat_lt (settled_count table) (length table.sizes) then GoOn (enter_stage table)
    else Ended (answered all table (spread all (parts_of table)))

-- after the start: the run goes on from the first table, or ends because an operation passes the width
abbrev pub started : Result Table Pass → Next
started (Ok table) = GoOn table
started (Err pass) = Ended (TooWide None pass)

abbrev pub opened : Classes → RunLimits → Option (List ℕ) → Next
opened all limits None = Ended NoPanel
opened all limits (Some first) = started (start (sizes_of all) first limits.bits)

-- the opening: searches for the first composition, and starts the first table with it
unfoldable pub opening : Classes → RunLimits → Next
opening all limits =
    if nat_lt limits.opening (first_search all).visits then Ended (NodesSpent None) else opened all limits (first_composition all)

-- the table that the run is at, or its ending, `steps` steps after `next`
abbrev pub follow : Classes → RunLimits → Next → ℕ → Next
follow all limits next zero = next
follow all limits (GoOn table) (suc more) = follow all limits (step all limits table) more
follow all limits (Ended ending) (suc more) = Ended ending

-- the run over these classes under these limits has this ending
pub record Ends (all : Classes) (limits : RunLimits) (ending : Ending) : Type 0 where
  pub steps : ℕ
  pub there : follow all limits (opening all limits) steps ≡ Ended ending

-- the run over this pool under these limits has this ending
abbrev pub RunEnds : Pool → Limits → Ending → Type 0
RunEnds pool limits ending = Ends (classes_of pool) (run_limits limits) ending

-- the run over this pool under these limits finds this answer
abbrev pub RunFinds : Pool → Limits → Answer → Type 0
RunFinds pool limits answer = (last : Table) × RunEnds pool limits (Found last answer)
