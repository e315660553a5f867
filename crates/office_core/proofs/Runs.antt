-- What a solve of an open round returns, given the ending of the run over its pool.
use Rattle.std.proofs.Common.{◌≡◌, ℕ, Option, Some, None, Result, Ok, Err, refl}
use Rattle.define_pools.specs.Pool.{Pool}
use Rattle.define_runs.specs.Run as run
use Rattle.define_runs.specs.Run.{Ending, Limits, RunEnds, run_limits}
use Rattle.define_searches.specs.Classes.{classes_of}
use Rattle.leximin_run.specs.Answers.{TellsEnding, stood}
use Rattle.leximin_run.specs.declared.stops.Stop.{Stop}
use Rattle.leximin_run.specs.declared.stops.Stop.TheVariants as stop
use Rattle.define_offices.specs.Commands.{Command, Outcome, Solve, Stops}
use Rattle.define_offices.specs.Deciding.{IsDecided, NeedsRun, asked, solved}
use Rattle.define_offices.specs.Pools.{pool_of}
use Rattle.define_offices.specs.Steps.{AtOnce, ByRun, Comes}
use Rattle.define_offices.specs.Tables.{Round, Open, Solved, Sealed, Drawn, Tables, bundle_of, named_round}
use Rattle.office_tables.specs.declared.changes.Change.{Change}
use Rattle.office_steps.specs.declared.replies.Reply.{Reply}
use Rattle.office_core.specs.Deciding.{Decides, RunsOnlyIf, Says, stop_of_run}
use Rattle.office_core.specs.declared.stops.DecideStop.{DecideStop}
use Rattle.office_core.specs.declared.stops.DecideStop.TheVariants as decide

-- a solve of a round without a bundle needs the run over its pool
pub needs_run : (tables : Tables) (number : ℕ) (limits : Limits) (pool : Pool) (round : Round) → named_round tables.rounds number ≡ Some round → bundle_of round ≡ None → pool_of tables number ≡ Ok pool →
    asked tables (Solve number limits) ≡ NeedsRun pool
needs_run tables number limits pool Open at none is = rw (at, is) refl
needs_run tables number limits pool (Solved bundle) at none is = absurd (cc)
needs_run tables number limits pool (Sealed bundle tickets) at none is = absurd (cc)
needs_run tables number limits pool (Drawn bundle tickets digits dropped) at none is = absurd (cc)

-- if `outcome` is an outcome of the command, and the result is this outcome, the result decides the command
pub decides_so : (tables : Tables) (command : Command) (outcome : Outcome) (result : Result (Option Change × Reply) DecideStop) → Comes tables command outcome → Says outcome result → Decides tables command result
decides_so tables command outcome (Ok decided) comes says = record { outcome = outcome; comes = comes; says = says }
decides_so tables command outcome (Err (decide.Refused refusal)) comes says = record { outcome = outcome; comes = comes; says = says }
decides_so tables command outcome (Err (decide.Solve stopped)) comes says = record { outcome = outcome; comes = comes; says = says }
decides_so tables command outcome (Err (decide.Unproved verdict)) comes says = record { outcome = outcome; comes = comes; says = says }
decides_so tables command outcome (Err decide.OutOfMemory) comes says = tt

pub at_once : (tables : Tables) (command : Command) (outcome : Outcome) (result : Result (Option Change × Reply) DecideStop) → asked tables command ≡ IsDecided outcome → Says outcome result → Decides tables command result
at_once tables command outcome result is says = decides_so tables command outcome result (AtOnce is) says

pub run_comes : (tables : Tables) (number : ℕ) (limits : Limits) (pool : Pool) (ending : Ending) → asked tables (Solve number limits) ≡ NeedsRun pool → RunEnds pool limits ending →
    Comes tables (Solve number limits) (solved number pool ending)
run_comes tables number limits pool ending needs ends = ByRun number limits pool ending refl needs ends refl

-- if the run stops, its stop decides the solve
pub stop_decides : (tables : Tables) (number : ℕ) (limits : Limits) (pool : Pool) (stopped : Stop) → asked tables (Solve number limits) ≡ NeedsRun pool → TellsEnding (classes_of pool) (run_limits limits) (Err stopped) →
    Decides tables (Solve number limits) (Err (stop_of_run stopped))
stop_decides tables number limits pool (stop.TooWide place pass) needs ends = record {
  outcome = Stops (run.TooWide (stood place) pass);
  comes = run_comes tables number limits pool (run.TooWide (stood place) pass) needs ends;
  says = (run.TooWide (stood place) pass, refl, refl);
}
stop_decides tables number limits pool (stop.TotalPasses place at total den) needs (table, pass, same, is, ends) = record {
  outcome = Stops (run.TotalPasses table pass);
  comes = run_comes tables number limits pool (run.TotalPasses table pass) needs ends;
  says = (run.TotalPasses table pass, (table, pass, same, is, refl), refl);
}
stop_decides tables number limits pool (stop.PivotsSpent place) needs (table, same, ends) = record {
  outcome = Stops (run.PivotsSpent table);
  comes = run_comes tables number limits pool (run.PivotsSpent table) needs ends;
  says = (run.PivotsSpent table, (table, same, refl), refl);
}
stop_decides tables number limits pool (stop.NodesSpent place) needs ends = record {
  outcome = Stops (run.NodesSpent (stood place));
  comes = run_comes tables number limits pool (run.NodesSpent (stood place)) needs ends;
  says = (run.NodesSpent (stood place), refl, refl);
}
stop_decides tables number limits pool stop.OutOfMemory needs ends = tt

-- what no run stopped is stopped by a run only if anything holds
pub no_run : (may : Type 0) (result : Result (Option Change × Reply) DecideStop) → RunsOnlyIf ⊥ result → RunsOnlyIf may result
no_run may (Ok decided) none = tt
no_run may (Err (decide.Refused refusal)) none = tt
no_run may (Err (decide.Solve stopped)) none = absurd none
no_run may (Err (decide.Unproved verdict)) none = tt
no_run may (Err decide.OutOfMemory) none = tt

pub may_run : (may : Type 0) (result : Result (Option Change × Reply) DecideStop) → may → RunsOnlyIf may result
may_run may (Ok decided) is = tt
may_run may (Err (decide.Refused refusal)) is = tt
may_run may (Err (decide.Solve stopped)) is = is
may_run may (Err (decide.Unproved verdict)) is = tt
may_run may (Err decide.OutOfMemory) is = tt
