-- What `make` answers: the summary of a run under `limits` over the pool that is made from `seed` and a number of volunteers. It reads no
-- input.
use Rattle.std.specs.Prelude.{◌≡◌, ℕ, List, length}
use Rattle.define_made_pools.specs.MadePools.{made_pool}
use Rattle.define_made_pools.specs.Summary.{Sizes, summary_text}
use Rattle.define_pools.specs.Certificate.{Answer}
use Rattle.define_pools.specs.Pool.{Pool}
use Rattle.define_rows.specs.Table.{Table}
use Rattle.define_runs.specs.Run.{Ending, Limits, RunEnds}
use Rattle.command_shell.specs.Answers.{RightAnswers}
use Rattle.command_meanings.specs.Lottery.{FindsGreatest, LotteryMeans}

-- how many classes, columns and pivots a run had, from its last table
abbrev pub sizes_of : Table → Sizes
sizes_of table = record { classes = length table.sizes; columns = length table.columns; pivots = table.pivots }

-- the text is the summary of the answer that the run finds and of the run's sizes. No lottery over the pool's quota panels is above the
-- lottery of the answer
pub record PrintsSummary (limits : Limits) (pool : Pool) (text : List ℕ) : Type 0 where
  pub answer : Answer
  pub last : Table
  pub ends : RunEnds pool limits (Ending.Found last answer)
  pub finds : FindsGreatest limits pool answer
  pub summary : text ≡ summary_text pool answer (sizes_of last)

-- status 0 is a summary instead of a bundle. All else is as `lottery` answers about the made pool
abbrev pub MakeMeans : ℕ → ℕ → Limits → RightAnswers
MakeMeans seed volunteers limits = record (LotteryMeans limits (made_pool seed volunteers)) {
  -- status 0
  done = PrintsSummary limits (made_pool seed volunteers);
}
