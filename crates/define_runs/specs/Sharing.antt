-- The run whose pricings have no bound on their visits, and how a run may end whose workers share a bound. Builds on Run and Keeps of
-- `define_runs`. An auditor of `lottery --share` reads this file.
use Rattle.std.specs.Prelude.{◌≡◌, ℕ, ◌≤◌, ◌<◌, Bool, true, false, Some, None}
use Rattle.define_pools.specs.Pool.{Pool}
use Rattle.define_rows.specs.Choice.{choice}
use Rattle.define_rows.specs.Steps.{open_row}
use Rattle.define_rows.specs.Table.{Table, row_at}
use Rattle.define_searches.specs.Classes.{Classes, classes_of}
use Rattle.define_runs.specs.Keeps.{IsReached}
use Rattle.define_runs.specs.Run.{Ending, Ends, Limits, NodesSpent, RunLimits, closed_rows, pricing_visits, run_limits}

-- the limits with another budget of pricing
abbrev pub with_pricing : RunLimits → ℕ → RunLimits
with_pricing limits pricing = record { bits = limits.bits; pivots = limits.pivots; opening = limits.opening; pricing = pricing }

-- P holds of the limits without a bound on pricing: it holds with each budget of pricing from some number on
pub record Unbounded (limits : RunLimits) (P : RunLimits → Type 0) : Type 0 where
  pub least : ℕ
  pub holds : (pricing : ℕ) → least ≤ pricing → P (with_pricing limits pricing)

-- the unbounded run, whose pricings may make any number of visits, has this ending. The budget of the opening search is that of `limits`
abbrev pub EndsUnbounded : Classes → RunLimits → Ending → Type 0
EndsUnbounded all limits ending = Unbounded limits (λ free. Ends all free ending)

-- the unbounded run reaches this table
abbrev pub ReachesUnbounded : Classes → RunLimits → Table → Type 0
ReachesUnbounded all limits table = Unbounded limits (λ free. IsReached all free table)

-- at this table a pricing is due, which makes more visits than its budget if its pieces are searched in waves
pub record SpendsVisits (all : Classes) (limits : RunLimits) (table : Table) : Type 0 where
  pub open_now : table.in_stage ≡ true
  pub due : choice table ≡ None
  pub more : limits.pricing < pricing_visits all (closed_rows table) (row_at table (open_row table))

-- How a run may end whose workers share a bound: as the unbounded run does, or because a pricing spends its budget. The second comes only at
-- a table that the unbounded run reaches and where the visits in waves exceed the budget. The order in which threads run may decide which
abbrev pub MayEnd : Classes → RunLimits → Ending → Type 0
MayEnd all limits (NodesSpent (Some table)) = ReachesUnbounded all limits table × SpendsVisits all limits table
MayEnd all limits other = EndsUnbounded all limits other

-- the run over this pool under these limits may have this ending if its workers share a bound
abbrev pub RunMayEnd : Pool → Limits → Ending → Type 0
RunMayEnd pool limits ending = MayEnd (classes_of pool) (run_limits limits) ending

-- a pricing spent its budget
abbrev pub spends_pricing : Ending → Bool
spends_pricing (NodesSpent (Some table)) = true
spends_pricing other = false
