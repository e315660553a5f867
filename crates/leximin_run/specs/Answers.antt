-- The answers of a run. Builds on Run of `define_runs`. The promises of `solve` use them, and so do `command_pools` and `office_core`.
use Rattle.std.specs.Prelude.{◌≡◌, [], ℕ, ℤ, ◌<◌, ◌≤◌, pos, Bool, IsFalse, List, length, Option, Some, None, Result, Ok, Err}
use Rattle.std.specs.List.{All}
use Rattle.define_bundles.specs.Ranges.{IsInRanges}
use Rattle.define_legs.specs.declared.Leg.{Leg}
use Rattle.define_legs.specs.Legs.{EndsWithLegs, leg_bases, pivot_limit, with_pivot}
use Rattle.define_pools.specs.Certificate.{Certifies}
use Rattle.define_pools.specs.Lottery.{LeximinGreatest}
use Rattle.define_pools.specs.Pool.{Pool, panels}
use Rattle.define_rows.specs.Table.{Table}
use Rattle.define_runs.specs.Keeps.{IsReached}
use Rattle.define_runs.specs.Run.{Ending, Ends, RunLimits}
use Rattle.define_searches.specs.Classes.{Classes}
use Rattle.define_runs.specs.Sharing.{MayEnd, SpendsVisits, spends_pricing}
use Rattle.define_runs.specs.Spreading.{TotalPass}
use Rattle.leximin_run.specs.Advancing.{HoldsFrom}
use Rattle.leximin_run.specs.declared.running.Refusal.{Refusal}
use Rattle.leximin_run.specs.declared.running.Refusal.TheVariants.{Wide, NoPivot, NoVisit, NoMemory}
use Rattle.leximin_run.specs.declared.stops.At.{At}
use Rattle.leximin_run.specs.declared.stops.At.TheVariants.{Opening}
use Rattle.leximin_run.specs.declared.stops.Solved.{Solved}
use Rattle.leximin_run.specs.declared.stops.Solved.TheVariants.{Found, NoPanel}
use Rattle.leximin_run.specs.declared.stops.SolvedSized.{SolvedSized}
use Rattle.leximin_run.specs.declared.stops.SolvedSized.TheVariants as sized
use Rattle.leximin_run.specs.declared.stops.SolvedTraced.{SolvedTraced}
use Rattle.leximin_run.specs.declared.stops.SolvedTraced.TheVariants as traced
use Rattle.leximin_run.specs.declared.stops.Outcome.{Outcome}
use Rattle.leximin_run.specs.declared.stops.Outcome.TheVariants as outcome
use Rattle.define_runs.specs.declared.sizes.RunSizes.{RunSizes}
use Rattle.leximin_run.specs.declared.stops.Stop.{Stop}
use Rattle.leximin_run.specs.declared.stops.Stop.TheVariants.{TooWide, TotalPasses, PivotsSpent, NodesSpent, OutOfMemory}

-- the table at which the run stopped, if there was one
abbrev pub stood : At → Option Table
stood Opening = None
stood (At.Table table) = Some table

-- `place`, `total` and `den` equal the numbers of `pass`, which names the composition at which the total passes 10^38
pub record IsTotalPass (pass : TotalPass) (place : ℕ) (total den : ℤ) : Type 0 where
  pub place_is : place ≡ pass.place
  pub total_is : total ≡ pos pass.total
  pub den_is : den ≡ pos pass.den

-- the answer is an ending of which E holds; running out of memory is allowed at any time
abbrev pub Tells : (Ending → Type 0) → Result Solved Stop → Type 0
Tells E (Ok (Found answer)) = (last : Table) × E (Ending.Found last answer)
Tells E (Ok NoPanel) = E Ending.NoPanel
Tells E (Err (TooWide place pass)) = E (Ending.TooWide (stood place) pass)
Tells E (Err (TotalPasses place at total den)) = (table : Table) × (pass : TotalPass) × (stood place ≡ Some table) × IsTotalPass pass at total den × E (Ending.TotalPasses table pass)
Tells E (Err (PivotsSpent place)) = (table : Table) × (stood place ≡ Some table) × E (Ending.PivotsSpent table)
Tells E (Err (NodesSpent place)) = E (Ending.NodesSpent (stood place))
Tells E (Err OutOfMemory) = Unit {0}

-- the answer is how the run over these classes ends
abbrev pub TellsEnding : Classes → RunLimits → Result Solved Stop → Type 0
TellsEnding all limits result = Tells (Ends all limits) result

-- the answer is an ending that the run over these classes may have if its workers share a bound
abbrev pub TellsSharing : Classes → RunLimits → Result Solved Stop → Type 0
TellsSharing all limits result = Tells (MayEnd all limits) result

-- if no pricing spends its budget in the run whose workers share nothing, the answer is how that run ends
abbrev pub KeepsEnding : Classes → RunLimits → Result Solved Stop → Type 0
KeepsEnding all limits result = (ending : Ending) → Ends all limits ending → IsFalse (spends_pricing ending) → TellsEnding all limits result

-- if a lottery is found, its stages certify it and it is leximin greatest; if the answer is that there is no panel, the pool has none
abbrev pub IsCertified : Pool → Result Solved Stop → Type 0
IsCertified pool (Ok (Found answer)) = Certifies pool answer.lottery answer.stages × LeximinGreatest pool answer.lottery
IsCertified pool (Ok NoPanel) = panels pool ≡ []
IsCertified pool (Err stop) = Unit {0}

-- if a lottery is found, its numbers are in the ranges of a bundle
abbrev pub KeepsRanges : Pool → Result Solved Stop → Type 0
KeepsRanges pool (Ok (Found answer)) = IsInRanges pool answer
KeepsRanges pool (Ok NoPanel) = Unit {0}
KeepsRanges pool (Err stop) = Unit {0}

-- why the run stops when a step is refused
abbrev pub stop_of : Table → Refusal → Stop
stop_of table (Wide pass) = TooWide (At.Table table) pass
stop_of table NoPivot = PivotsSpent (At.Table table)
stop_of table NoVisit = NodesSpent (At.Table table)
stop_of table NoMemory = OutOfMemory

-- the sizes of a table: its classes, its columns, and the pivots that were made
abbrev pub sizes_in : Table → RunSizes
sizes_in table = record { classes = length table.sizes; columns = length table.columns; pivots = table.pivots }

-- the run ends so, with each budget of pricing from some number on. If a pricing spends its budget: the run reaches this table, and the visits
-- in waves there exceed the budget
abbrev pub EndsFrom : Bool → Classes → RunLimits → Ending → Type 0
EndsFrom share all limits (Ending.NodesSpent (Some table)) = HoldsFrom share limits (λ free. IsReached all free table) × SpendsVisits all limits table
EndsFrom share all limits other = HoldsFrom share limits (λ free. Ends all free other)

-- the answer of a run, without its sizes and its legs
abbrev pub solved_of : Result Outcome Stop → Result Solved Stop
solved_of (Ok (outcome.Found answer sizes legs)) = Ok (Found answer)
solved_of (Ok outcome.NoPanel) = Ok NoPanel
solved_of (Err stop) = Err stop

-- the answer of a run with its legs, without its sizes
abbrev pub traced_of : Result Outcome Stop → Result SolvedTraced Stop
traced_of (Ok (outcome.Found answer sizes legs)) = Ok (traced.Found answer legs)
traced_of (Ok outcome.NoPanel) = Ok traced.NoPanel
traced_of (Err stop) = Err stop

-- the answer without the sizes
abbrev pub unsized : Result SolvedSized Stop → Result Solved Stop
unsized (Ok (sized.Found answer sizes)) = Ok (Found answer)
unsized (Ok sized.NoPanel) = Ok NoPanel
unsized (Err stop) = Err stop

-- the answer without the legs
abbrev pub untraced : Result SolvedTraced Stop → Result Solved Stop
untraced (Ok (traced.Found answer legs)) = Ok (Found answer)
untraced (Ok traced.NoPanel) = Ok NoPanel
untraced (Err stop) = Err stop

-- the answer is how the run ends, with the sizes of the run's last table if a lottery is found
abbrev pub TellsSized : Classes → RunLimits → Result SolvedSized Stop → Type 0
TellsSized all limits (Ok (sized.Found answer sizes)) = (last : Table) × (sizes ≡ sizes_in last) × Ends all limits (Ending.Found last answer)
TellsSized all limits (Ok sized.NoPanel) = TellsEnding all limits (Ok NoPanel)
TellsSized all limits (Err stop) = TellsEnding all limits (Err stop)

-- the answer is how the run ends, with the run's legs if a lottery is found
abbrev pub TellsTraced : Classes → RunLimits → Result SolvedTraced Stop → Type 0
TellsTraced all limits (Ok (traced.Found answer legs)) = (last : Table) × EndsWithLegs all limits (Ending.Found last answer) legs.items
TellsTraced all limits (Ok traced.NoPanel) = TellsEnding all limits (Ok NoPanel)
TellsTraced all limits (Err stop) = TellsEnding all limits (Err stop)

-- the answer is how the run ends, with the sizes of its last table and its legs if a lottery is found
abbrev pub TellsOutcome : Classes → RunLimits → Result Outcome Stop → Type 0
TellsOutcome all limits (Ok (outcome.Found answer sizes legs)) = (last : Table) × (sizes ≡ sizes_in last) × EndsWithLegs all limits (Ending.Found last answer) legs.items
TellsOutcome all limits (Ok outcome.NoPanel) = TellsEnding all limits (Ok NoPanel)
TellsOutcome all limits (Err stop) = TellsEnding all limits (Err stop)

-- the same of a run whose workers share a bound or nothing
abbrev pub TellsRun : Bool → Classes → RunLimits → Result Outcome Stop → Type 0
TellsRun share all limits (Ok (outcome.Found answer sizes legs)) =
    (last : Table) × (sizes ≡ sizes_in last) × HoldsFrom share limits (λ free. EndsWithLegs all free (Ending.Found last answer) legs.items)
TellsRun share all limits (Ok outcome.NoPanel) = Tells (EndsFrom share all limits) (Ok NoPanel)
TellsRun share all limits (Err stop) = Tells (EndsFrom share all limits) (Err stop)

-- each leg has fewer pivots than there are sets of variables that could be basic in it
abbrev pub AreShortLegs : Classes → List Leg → Type 0
AreShortLegs all legs = All (λ leg. leg.pivots < leg_bases (length all.classes) leg) legs

abbrev pub HasShortLegs : Classes → Result SolvedTraced Stop → Type 0
HasShortLegs all (Ok (traced.Found answer legs)) = AreShortLegs all legs.items
HasShortLegs all (Ok traced.NoPanel) = Unit {0}
HasShortLegs all (Err stop) = Unit {0}

-- if a lottery is found, there is a class
abbrev pub HasSomeClass : Classes → Result SolvedTraced Stop → Type 0
HasSomeClass all (Ok (traced.Found answer legs)) = 1 ≤ length all.classes
HasSomeClass all (Ok traced.NoPanel) = Unit {0}
HasSomeClass all (Err stop) = Unit {0}

-- If the budget of pivots is spent, it is below the sum, over the run's legs in which a pivot was made or is due, of how many sets of
-- variables could be basic in them. So a budget of at least that sum is never spent
abbrev pub SpendsBelowLegs : Classes → RunLimits → Stop → Type 0
SpendsBelowLegs all limits (PivotsSpent place) =
    (table : Table) × (legs : List Leg) × (stood place ≡ Some table) × EndsWithLegs all limits (Ending.PivotsSpent table) legs × (limits.pivots < pivot_limit (length all.classes) (with_pivot legs))
SpendsBelowLegs all limits stop = Unit {0}
