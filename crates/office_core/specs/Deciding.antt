-- Which outcome of the definitions a result of `decide` is. The promises of `decide`, `act` and `act_over` use it, and so do the commands
-- over a store.
use Rattle.std.specs.Prelude.{◌≡◌, Option, Some, Result, Ok, Err, option_map, ⊤}
use Rattle.define_checks.specs.Reasons as reasons
use Rattle.define_pools.specs.Pool.{Pool}
use Rattle.define_rows.specs.Table.{Table}
use Rattle.define_runs.specs.Run as run
use Rattle.define_runs.specs.Run.{Ending}
use Rattle.define_runs.specs.Spreading.{TotalPass}
use Rattle.leximin_run.specs.Answers.{IsTotalPass, stood}
use Rattle.leximin_run.specs.declared.stops.Stop.{Stop}
use Rattle.leximin_run.specs.declared.stops.Stop.TheVariants as stop
use Rattle.define_offices.specs.Commands as office
use Rattle.define_offices.specs.Commands.{Outcome, Replies, Refuses, Stops}
use Rattle.define_offices.specs.Steps.{Comes}
use Rattle.define_offices.specs.Tables.{Tables}
use Rattle.office_tables.specs.Changes.{seen_change}
use Rattle.office_tables.specs.declared.changes.Change.{Change}
use Rattle.office_steps.specs.Replies.{seen_refusal, seen_reply}
use Rattle.office_steps.specs.declared.replies.Reply.{Reply}
use Rattle.office_steps.specs.declared.stops.OfficeStop.{OfficeStop}
use Rattle.office_steps.specs.declared.stops.OfficeStop.TheVariants as office_stop
use Rattle.office_core.specs.declared.stops.DecideStop.{DecideStop}
use Rattle.office_core.specs.declared.stops.DecideStop.TheVariants.{Refused, Solve, Unproved, OutOfMemory}

-- the stop of the program's run is this ending of the stated run
abbrev pub IsEnding : Stop → Ending → Type 0
IsEnding (stop.TooWide place pass) ending = ending ≡ run.TooWide (stood place) pass
IsEnding (stop.TotalPasses place at total den) ending = (table : Table) × (pass : TotalPass) × (stood place ≡ Some table) × IsTotalPass pass at total den × (ending ≡ run.TotalPasses table pass)
IsEnding (stop.PivotsSpent place) ending = (table : Table) × (stood place ≡ Some table) × (ending ≡ run.PivotsSpent table)
IsEnding (stop.NodesSpent place) ending = ending ≡ run.NodesSpent (stood place)
IsEnding stop.OutOfMemory ending = ⊥

-- the result is this outcome, or out of memory, which is allowed at any time
abbrev pub Says : Outcome → Result (Option Change × Reply) DecideStop → Type 0
Says outcome (Ok (change, reply)) = outcome ≡ Replies (option_map seen_change change) (seen_reply reply)
Says outcome (Err (Refused refusal)) = outcome ≡ Refuses (seen_refusal refusal)
Says outcome (Err (Solve stopped)) = (ending : Ending) × IsEnding stopped ending × (outcome ≡ Stops ending)
Says outcome (Err (Unproved verdict)) = (refusal : reasons.Refusal) × (verdict ≡ reasons.Refused refusal) × (outcome ≡ office.Unproved refusal)
Says outcome (Err OutOfMemory) = ⊤

-- the result is an outcome of the command over `tables`, or out of memory, which is allowed at any time
pub record IsDecision (tables : Tables) (command : office.Command) (result : Result (Option Change × Reply) DecideStop) : Type 0 where
  pub outcome : Outcome
  pub comes : Comes tables command outcome
  pub says : Says outcome result

abbrev pub Decides : Tables → office.Command → Result (Option Change × Reply) DecideStop → Type 0
Decides tables command (Err OutOfMemory) = ⊤
Decides tables command (Err stopped) = IsDecision tables command (Err stopped)
Decides tables command (Ok decided) = IsDecision tables command (Ok decided)

-- the command is a solve. Only a solve makes a run
abbrev pub IsSolve : office.Command → Type 0
IsSolve (office.Solve round limits) = ⊤
IsSolve other = ⊥

-- if a run stopped the decision, `may` holds
abbrev pub RunsOnlyIf : Type 0 → Result (Option Change × Reply) DecideStop → Type 0
RunsOnlyIf may (Ok decided) = ⊤
RunsOnlyIf may (Err (Refused refusal)) = ⊤
RunsOnlyIf may (Err (Solve stopped)) = may
RunsOnlyIf may (Err (Unproved verdict)) = ⊤
RunsOnlyIf may (Err OutOfMemory) = ⊤

abbrev pub stop_of_office : OfficeStop → DecideStop
stop_of_office (office_stop.Refused refusal) = Refused refusal
stop_of_office office_stop.OutOfMemory = OutOfMemory

-- the result is the pool of a round, or the refusal if there is none, or out of memory, which is allowed at any time
abbrev pub TellsPool : Result Pool office.Refusal → Result Pool DecideStop → Type 0
TellsPool is (Ok pool) = is ≡ Ok pool
TellsPool is (Err (Refused refusal)) = is ≡ Err (seen_refusal refusal)
TellsPool is (Err (Solve stopped)) = ⊥
TellsPool is (Err (Unproved verdict)) = ⊥
TellsPool is (Err OutOfMemory) = ⊤

-- the stop of `decide` for a stop of the run
abbrev pub stop_of_run : Stop → DecideStop
stop_of_run stop.OutOfMemory = OutOfMemory
stop_of_run (stop.TooWide place pass) = Solve (stop.TooWide place pass)
stop_of_run (stop.TotalPasses place at total den) = Solve (stop.TotalPasses place at total den)
stop_of_run (stop.PivotsSpent place) = Solve (stop.PivotsSpent place)
stop_of_run (stop.NodesSpent place) = Solve (stop.NodesSpent place)
