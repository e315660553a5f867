-- One step of a run, as the code makes it. Builds on Run and Keeps of `define_runs`, on Sharing of `define_runs`, and on InOrder, Row and
-- Table of `define_rows`. Used by the modules `running` and `solving`.
use Rattle.std.specs.Prelude.{◌≡◌, ◌≤◌, ◌<◌, ℕ, Bool, true, false, IsFalse, List, length, Option, Some, Result, Ok, Err}
use Rattle.define_rows.specs.InOrder.{settled_count}
use Rattle.define_rows.specs.Row.{Row}
use Rattle.define_rows.specs.Table.{Table}
use Rattle.define_runs.specs.Keeps.{AreRunLimits, IsReached, KeepsRun}
use Rattle.define_runs.specs.Run.{RunLimits, GoOn, Ended, TooWide, PivotsSpent, closed_rows, pricing_visits, step}
use Rattle.define_searches.specs.Classes.{Classes, KeepsLimits}
use Rattle.define_searches.specs.Compositions.{price}
use Rattle.define_runs.specs.Sharing.{SpendsVisits, with_pricing}
use Rattle.panel_search.specs.declared.searching.SearchStop.{SearchStop}
use Rattle.panel_search.specs.declared.searching.SearchStop.TheVariants.{Spent, OutOfMemory}
use Rattle.leximin_run.specs.declared.running.Refusal.{Refusal}
use Rattle.leximin_run.specs.declared.running.Refusal.TheVariants.{Wide, NoPivot, NoVisit, NoMemory}

-- P holds of the limits with each budget of pricing from `least` on. If the workers share nothing, `least` is at most the budget, so P holds of
-- the limits too. If they share a bound, a pricing may be answered though its visits in waves exceed the budget, so `least` may be greater
pub record HoldsFrom (share : Bool) (limits : RunLimits) (P : RunLimits → Type 0) : Type 0 where
  pub least : ℕ
  pub own : IsFalse share → least ≤ limits.pricing
  pub holds : (pricing : ℕ) → least ≤ pricing → P (with_pricing limits pricing)

-- what a pricing may answer about a row, for workers that share a bound or nothing
abbrev pub Prices : Bool → Classes → List Row → Row → ℕ → Result (Option (List ℕ)) SearchStop → Type 0
Prices share all closed row nodes (Ok found) = (found ≡ price all closed row) × (IsFalse share → pricing_visits all closed row ≤ nodes)
Prices share all closed row nodes (Err Spent) = nodes < pricing_visits all closed row
Prices share all closed row nodes (Err OutOfMemory) = Unit {0}

-- the next step is refused for this reason, and the table is unchanged. Running out of memory is allowed at any time; then nothing is
-- said of the table
abbrev pub Refuses : Bool → Classes → RunLimits → Table → Refusal → Table → Type 0
Refuses share all limits before (Wide pass) after = HoldsFrom share limits (λ free. step all free before ≡ Ended (TooWide (Some before) pass)) × (after ≡ before)
Refuses share all limits before NoPivot after = HoldsFrom share limits (λ free. step all free before ≡ Ended (PivotsSpent before)) × (after ≡ before)
Refuses share all limits before NoVisit after = SpendsVisits all limits before × (after ≡ before)
Refuses share all limits before NoMemory after = Unit {0}

-- the refusal of a step whose pricing stops: the budget of visits is spent, or memory runs out
abbrev pub refusal_of : SearchStop → Refusal
refusal_of Spent = NoVisit
refusal_of OutOfMemory = NoMemory

-- the next step was made, or it was refused
abbrev pub Makes : Bool → Classes → RunLimits → Table → Result (Unit {0}) Refusal → Table → Type 0
Makes share all limits before (Ok made) after = HoldsFrom share limits (λ free. step all free before ≡ GoOn after)
Makes share all limits before (Err refusal) after = Refuses share all limits before refusal after

-- true if the next step was made; false if no step is left, as no stage is open and all classes are settled; or the step was refused
abbrev pub Advances : Bool → Classes → RunLimits → Table → Result Bool Refusal → Table → Type 0
Advances share all limits before (Ok true) after = HoldsFrom share limits (λ free. step all free before ≡ GoOn after)
Advances share all limits before (Ok false) after = (before.in_stage ≡ false) × (length before.sizes ≤ settled_count before) × (after ≡ before)
Advances share all limits before (Err refusal) after = Refuses share all limits before refusal after

-- the conditions between two steps: the classes and limits are in their ranges, `KeepsRun` holds of `table`, and `closed` are its closed
-- rows
pub record Stands (all : Classes) (limits : RunLimits) (table : Table) (closed : List Row) : Type 0 where
  pub limited : KeepsLimits all
  pub ranges : AreRunLimits limits
  pub keeps : KeepsRun all limits table
  pub closed_are : closed ≡ closed_rows table

-- the run reaches the table `table`, and `closed` are its closed rows
pub record Reaches (share : Bool) (all : Classes) (limits : RunLimits) (table : Table) (closed : List Row) : Type 0 where
  pub reached : HoldsFrom share limits (λ free. IsReached all free table)
  pub stands : Stands all limits table closed
