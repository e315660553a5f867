-- `lottery` and `make` have at most one right answer, since a run ends in one way.
use Rattle.std.proofs.Common.{◌≡◌, ◌∙◌, ℕ, List, Some, ap, sym, subst}
use Rattle.std.specs.Prelude.{⊤}
use Rattle.define_made_pools.specs.MadePools.{made_pool}
use Rattle.define_made_pools.specs.Summary.{summary_text}
use Rattle.define_bundles.specs.BundleText.{bundle_text}
use Rattle.define_pools.specs.Certificate.{Answer}
use Rattle.define_pools.specs.Pool.{Pool}
use Rattle.define_rows.specs.Table.{Table}
use Rattle.define_searches.specs.Classes.{classes_of}
use Rattle.define_runs.specs.Run.{Ending, Limits, RunEnds, opening, run_limits}
use Rattle.define_runs.proofs.Following.{same_ending}
use Rattle.command_shell.specs.declared.status.Printed.TheVariants.{Done, NoPanel}
use Rattle.command_shell.specs.declared.status.Cause.TheVariants.{Wide, Spent}
use Rattle.command_shell.specs.Answers.{HasOneAnswer, IsRight, Saying, Prints, Stops}
use Rattle.command_shell.specs.Lines.{no_panel_line}
use Rattle.command_meanings.specs.Lines.{nodes_spent_line, pivots_spent_line, total_line, wide_line}
use Rattle.command_meanings.specs.Lottery.{LotteryMeans, TellsBudget, TellsWidth}
use Rattle.command_meanings.specs.Make.{MakeMeans, sizes_of}

-- a run ends in one way
pub one_ending : (pool : Pool) (limits : Limits) (first second : Ending) → RunEnds pool limits first → RunEnds pool limits second → first ≡ second
one_ending pool limits first second a b =
    same_ending (classes_of pool) (run_limits limits) (opening (classes_of pool) (run_limits limits)) a.steps b.steps first second a.there b.there

-- the answer of `lottery` for an ending of the run
abbrev pub lottery_said : Limits → Pool → Ending → Saying
lottery_said limits pool (Ending.Found last found) = Prints Done (bundle_text pool found)
lottery_said limits pool Ending.NoPanel = Prints NoPanel no_panel_line
lottery_said limits pool (Ending.TooWide stood pass) = Stops Wide (wide_line stood pass)
lottery_said limits pool (Ending.TotalPasses stood pass) = Stops Wide (total_line pass)
lottery_said limits pool (Ending.PivotsSpent stood) = Stops Spent (pivots_spent_line limits.pivots (Some stood))
lottery_said limits pool (Ending.NodesSpent stood) = Stops Spent (nodes_spent_line limits.nodes stood)

pub width_said : (limits : Limits) (pool : Pool) (ending : Ending) (line : List ℕ) → TellsWidth ending line → Stops Wide line ≡ lottery_said limits pool ending
width_said limits pool (Ending.TooWide stood pass) line tells = ap (Stops Wide) tells
width_said limits pool (Ending.TotalPasses stood pass) line tells = ap (Stops Wide) tells
width_said limits pool other line tells = absurd tells

pub budget_said : (limits : Limits) (pool : Pool) (ending : Ending) (line : List ℕ) → TellsBudget limits ending line → Stops Spent line ≡ lottery_said limits pool ending
budget_said limits pool (Ending.PivotsSpent stood) line tells = ap (Stops Spent) tells
budget_said limits pool (Ending.NodesSpent stood) line tells = ap (Stops Spent) tells
budget_said limits pool other line tells = absurd tells

-- the run has an ending, and the answer is what `said` returns for this ending
record Tells (said : Ending → Saying) (limits : Limits) (pool : Pool) (answer : Saying) : Type 0 where
  ending : Ending
  ends : RunEnds pool limits ending
  is : answer ≡ said ending

one_told : (said : Ending → Saying) (limits : Limits) (pool : Pool) (first second : Saying) → Tells said limits pool first → Tells said limits pool second → first ≡ second
one_told said limits pool first second a b = a.is ∙ (ap said (one_ending pool limits a.ending b.ending a.ends b.ends) ∙ sym b.is)

lottery_tells : (limits : Limits) (pool : Pool) (answer : Saying) → IsRight (LotteryMeans limits pool) answer → Tells (lottery_said limits pool) limits pool answer
lottery_tells limits pool (Prints Done text) right =
    record { ending = Ending.Found right.finds.ends.0 right.answer; ends = right.finds.ends.1; is = ap (Prints Done) right.bundle }
lottery_tells limits pool (Prints NoPanel text) right = record { ending = Ending.NoPanel; ends = right.finds.ends; is = ap (Prints NoPanel) right.line }
lottery_tells limits pool (Stops Wide line) right = record { ending = right.ending; ends = right.ends; is = width_said limits pool right.ending line right.tells }
lottery_tells limits pool (Stops Spent line) right = record { ending = right.ending; ends = right.ends; is = budget_said limits pool right.ending line right.tells }
lottery_tells limits pool answer right = absurd right

pub lottery_once : (limits : Limits) (pool : Pool) → HasOneAnswer (LotteryMeans limits pool)
lottery_once limits pool first second a b =
    one_told (lottery_said limits pool) limits pool first second (lottery_tells limits pool first a) (lottery_tells limits pool second b)

-- the answer is a text with status 0
abbrev pub IsDone : Saying → Type 0
IsDone (Prints Done text) = ⊤
IsDone answer = ⊥

-- an answer that is the one of `lottery` for a lottery that is found has status 0
pub found_is_done : (limits : Limits) (pool : Pool) (last : Table) (found : Answer) (answer : Saying) → answer ≡ lottery_said limits pool (Ending.Found last found) → IsDone answer
found_is_done limits pool last found answer is = subst IsDone (sym is) tt

-- the answer of `make` for an ending of the run: the summary if a lottery is found, else the answer of `lottery`
abbrev made_said : Limits → Pool → Ending → Saying
made_said limits pool (Ending.Found last found) = Prints Done (summary_text pool found (sizes_of last))
made_said limits pool other = lottery_said limits pool other

other_said : (limits : Limits) (pool : Pool) (ending : Ending) (answer : Saying) → (IsDone answer → ⊥) → answer ≡ lottery_said limits pool ending → answer ≡ made_said limits pool ending
other_said limits pool (Ending.Found last found) answer not is = absurd (not (subst IsDone (sym is) tt))
other_said limits pool Ending.NoPanel answer not is = is
other_said limits pool (Ending.TooWide stood pass) answer not is = is
other_said limits pool (Ending.TotalPasses stood pass) answer not is = is
other_said limits pool (Ending.PivotsSpent stood) answer not is = is
other_said limits pool (Ending.NodesSpent stood) answer not is = is

made_tells : (limits : Limits) (seed volunteers : ℕ) (answer : Saying) → IsRight (MakeMeans seed volunteers limits) answer →
    Tells (made_said limits (made_pool seed volunteers)) limits (made_pool seed volunteers) answer
made_tells limits seed volunteers (Prints Done text) right = record { ending = Ending.Found right.last right.answer; ends = right.ends; is = ap (Prints Done) right.summary }
made_tells limits seed volunteers (Prints NoPanel text) right = record { ending = Ending.NoPanel; ends = right.finds.ends; is = ap (Prints NoPanel) right.line }
made_tells limits seed volunteers (Stops Wide line) right =
    let pool = made_pool seed volunteers in
    record { ending = right.ending; ends = right.ends; is = other_said limits pool right.ending (Stops Wide line) (λ no. no) (width_said limits pool right.ending line right.tells) }
made_tells limits seed volunteers (Stops Spent line) right =
    let pool = made_pool seed volunteers in
    record { ending = right.ending; ends = right.ends; is = other_said limits pool right.ending (Stops Spent line) (λ no. no) (budget_said limits pool right.ending line right.tells) }
made_tells limits seed volunteers answer right = absurd right

pub make_once : (seed volunteers : ℕ) (limits : Limits) → HasOneAnswer (MakeMeans seed volunteers limits)
make_once seed volunteers limits first second a b =
    let pool = made_pool seed volunteers in
    one_told (made_said limits pool) limits pool first second (made_tells limits seed volunteers first a) (made_tells limits seed volunteers second b)
