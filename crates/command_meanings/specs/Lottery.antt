-- What `lottery` answers about a pool: the bundle of the answer that the run finds under `limits`, or why there is none.
use Rattle.std.specs.Prelude.{◌≡◌, ◌<◌, ◌≤◌, ℕ, List, [], length, Some, ⊤}
use Rattle.define_pools.specs.Certificate.{Answer, Certifies}
use Rattle.define_pools.specs.Lottery.{LeximinGreatest}
use Rattle.define_pools.specs.Pool.{Pool, panels}
use Rattle.define_bundles.specs.BundleText.{bundle_text}
use Rattle.define_legs.specs.declared.Leg.{Leg}
use Rattle.define_legs.specs.Legs.{RunHasLegs, pivot_limit, with_pivot}
use Rattle.define_searches.specs.Classes.{classes_of}
use Rattle.define_searches.specs.Visits.{first_search}
use Rattle.define_runs.specs.Run.{Ending, Limits, RunEnds, RunFinds}
use Rattle.command_shell.specs.Answers.{RightAnswers, no_answer}
use Rattle.command_shell.specs.Lines.{no_panel_line}
use Rattle.command_meanings.specs.Lines.{nodes_spent_line, pivots_spent_line, total_line, wide_line}

-- the run finds this answer. Its stages certify its lottery, so no lottery over the pool's quota panels is above it
pub record FindsGreatest (limits : Limits) (pool : Pool) (answer : Answer) : Type 0 where
  pub ends : RunFinds pool limits answer
  pub certified : Certifies pool answer.lottery answer.stages
  pub greatest : LeximinGreatest pool answer.lottery

-- the run finds that there is no quota panel, and its opening search takes at most `limits.nodes` visits
pub record FindsNone (limits : Limits) (pool : Pool) : Type 0 where
  pub ends : RunEnds pool limits Ending.NoPanel
  pub none : panels pool ≡ []
  pub within : (first_search (classes_of pool)).visits ≤ limits.nodes

-- the text is the bundle of the answer that the run finds
pub record PrintsBundle (limits : Limits) (pool : Pool) (text : List ℕ) : Type 0 where
  pub answer : Answer
  pub finds : FindsGreatest limits pool answer
  pub bundle : text ≡ bundle_text pool answer

-- the run finds that there is no quota panel, and the text is the line that says so
pub record PrintsNone (limits : Limits) (pool : Pool) (text : List ℕ) : Type 0 where
  pub finds : FindsNone limits pool
  pub line : text ≡ no_panel_line

-- the line names the operation or the total at which the run ends because a number is too great
abbrev pub TellsWidth : Ending → List ℕ → Type 0
TellsWidth (Ending.TooWide stood pass) line = line ≡ wide_line stood pass
TellsWidth (Ending.TotalPasses stood pass) line = line ≡ total_line pass
TellsWidth other line = ⊥

-- an operation passes the width, or the lottery's total passes 10 ^ 38; the line names it
pub record PassesWidth (limits : Limits) (pool : Pool) (line : List ℕ) : Type 0 where
  pub ending : Ending
  pub ends : RunEnds pool limits ending
  pub tells : TellsWidth ending line

-- the line names the budget, of pivots or of visits, that is spent when the run ends
abbrev pub TellsBudget : Limits → Ending → List ℕ → Type 0
TellsBudget limits (Ending.PivotsSpent stood) line = line ≡ pivots_spent_line limits.pivots (Some stood)
TellsBudget limits (Ending.NodesSpent stood) line = line ≡ nodes_spent_line limits.nodes stood
TellsBudget limits other line = ⊥

-- If the budget of pivots is spent, it is below the sum of the numbers of sets of variables that could be basic in a leg, over the legs in
-- which the run makes a pivot or has one due. So a budget of at least this sum is never spent
abbrev pub IsBelowBounds : Limits → Pool → Ending → Type 0
IsBelowBounds limits pool (Ending.PivotsSpent stood) =
    (legs : List Leg) × RunHasLegs pool limits (Ending.PivotsSpent stood) legs × (limits.pivots < pivot_limit (length (classes_of pool).classes) (with_pivot legs))
IsBelowBounds limits pool other = ⊤

-- the run needs more than `limits.pivots` pivots, or a search needs more than `limits.nodes` visits; the line says which
pub record SpendsBudget (limits : Limits) (pool : Pool) (line : List ℕ) : Type 0 where
  pub ending : Ending
  pub ends : RunEnds pool limits ending
  pub tells : TellsBudget limits ending line
  pub below : IsBelowBounds limits pool ending

abbrev pub LotteryMeans : Limits → Pool → RightAnswers
LotteryMeans limits pool = record no_answer {
  -- status 0
  done = PrintsBundle limits pool;
  -- status 1
  no_panel = PrintsNone limits pool;
  -- status 4
  wide = PassesWidth limits pool;
  -- status 5
  spent = SpendsBudget limits pool;
}
