-- What the search for a first panel may return for a pool, the answer to a stop of the run, and how the run of `lottery` ends. The contracts
-- in src/panel.rt and src/lottery.rt cite it.
use Rattle.std.specs.Prelude.{◌≡◌, ◌<◌, ◌≤◌, ℕ, List, [], Option, Some, None, Result, Ok, Err, ⊤}
use Rattle.define_pools.specs.Pool.{Pool, panels}
use Rattle.define_runs.specs.Spreading.{TotalPass}
use Rattle.define_runs.specs.Run.{Limits}
use Rattle.panel_search.specs.declared.searching.SearchStop.{SearchStop}
use Rattle.panel_search.specs.declared.searching.SearchStop.TheVariants as search
use Rattle.leximin_run.specs.Answers.{IsTotalPass, stood}
use Rattle.leximin_run.specs.declared.stops.Stop.{Stop}
use Rattle.leximin_run.specs.declared.stops.Stop.TheVariants.{TooWide, TotalPasses, PivotsSpent, NodesSpent, OutOfMemory}
use Rattle.command_shell.specs.declared.status.Cause.TheVariants.{Wide, Spent}
use Rattle.command_shell.specs.Answers.{IsRight, RightAnswers, Saying, Stops, no_answer, saying}
use Rattle.command_meanings.specs.Lines.{nodes_spent_line, pivots_spent_line, total_line, wide_line}
use Rattle.command_meanings.specs.Lottery.{FindsGreatest, FindsNone, PassesWidth, SpendsBudget}
use Rattle.command_meanings.specs.Panel.{IsFirstPanel, visits_of}
use Rattle.command_pools.specs.declared.lottery.LotteryRun.{LotteryRun}
use Rattle.command_pools.specs.declared.lottery.LotteryRun.TheVariants as run

-- if the search makes at most `nodes` visits, the first panel, or None if there is none; else `Spent`. Running out of memory is allowed at
-- any time
abbrev pub FirstSays : ℕ → Pool → Result (Option (List ℕ)) SearchStop → Type 0
FirstSays nodes pool (Ok (Some panel)) = (visits_of pool ≤ nodes) × IsFirstPanel pool panel
FirstSays nodes pool (Ok None) = (visits_of pool ≤ nodes) × (panels pool ≡ [])
FirstSays nodes pool (Err search.Spent) = nodes < visits_of pool
FirstSays nodes pool (Err search.OutOfMemory) = ⊤

-- the answer is the one for this stop. Want of memory has no answer: the command returns an error then
abbrev pub TellsStop : Limits → Stop → Saying → Type 0
TellsStop limits (TooWide at pass) answer = answer ≡ Stops Wide (wide_line (stood at) pass)
TellsStop limits (TotalPasses at place total den) answer = (pass : TotalPass) → IsTotalPass pass place total den → answer ≡ Stops Wide (total_line pass)
TellsStop limits (PivotsSpent at) answer = answer ≡ Stops Spent (pivots_spent_line limits.pivots (stood at))
TellsStop limits (NodesSpent at) answer = answer ≡ Stops Spent (nodes_spent_line limits.nodes (stood at))
TellsStop limits OutOfMemory answer = ⊥

-- what `lottery` answers if its run stops early
abbrev pub StopMeans : Limits → Pool → RightAnswers
StopMeans limits pool = record no_answer {
  -- status 4
  wide = PassesWidth limits pool;
  -- status 5
  spent = SpendsBudget limits pool;
}

-- the run of `lottery` over the pool ends so
abbrev pub EndsSo : Limits → Pool → LotteryRun → Type 0
EndsSo limits pool (run.Found bundle) = (bundle.pool ≡ pool) × FindsGreatest limits pool bundle.answer
EndsSo limits pool run.NoPanel = FindsNone limits pool
EndsSo limits pool (run.Stopped answer) = IsRight (StopMeans limits pool) (saying answer)
