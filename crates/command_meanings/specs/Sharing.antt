-- What `lottery --share` answers about a pool. Its workers share a bound, so a pricing may make fewer visits than it makes for `lottery`, and
-- whether it stays within its budget may depend on when the workers run. Builds on Lottery, and on Sharing of `define_runs`.
use Rattle.std.specs.Prelude.{◌≡◌, ℕ, IsFalse, List}
use Rattle.define_bundles.specs.BundleText.{bundle_text}
use Rattle.define_pools.specs.Certificate.{Answer, Certifies}
use Rattle.define_pools.specs.Lottery.{LeximinGreatest}
use Rattle.define_pools.specs.Pool.{IsPool, Pool}
use Rattle.define_rows.specs.Table.{Table}
use Rattle.define_runs.specs.Keeps.{AreLimits}
use Rattle.define_runs.specs.Run.{Ending, Limits, RunEnds}
use Rattle.define_runs.specs.Sharing.{RunMayEnd, spends_pricing}
use Rattle.command_shell.specs.Answers.{IsRight, RightAnswers, Saying}
use Rattle.command_meanings.specs.Lottery.{LotteryMeans, TellsBudget, TellsWidth}

-- the unbounded run, whose pricings have no bound on their visits, finds this answer
abbrev pub MayFind : Limits → Pool → Answer → Type 0
MayFind limits pool answer = (last : Table) × RunMayEnd pool limits (Ending.Found last answer)

-- the unbounded run finds this answer. Its stages certify its lottery, so no lottery over the pool's quota panels is above it
pub record SharingFinds (limits : Limits) (pool : Pool) (answer : Answer) : Type 0 where
  pub ends : MayFind limits pool answer
  pub certified : Certifies pool answer.lottery answer.stages
  pub greatest : LeximinGreatest pool answer.lottery

-- the text is the bundle of the answer that the unbounded run finds
pub record PrintsSharedBundle (limits : Limits) (pool : Pool) (text : List ℕ) : Type 0 where
  pub answer : Answer
  pub finds : SharingFinds limits pool answer
  pub bundle : text ≡ bundle_text pool answer

-- in the unbounded run an operation passes the width, or the lottery's total passes 10 ^ 38; the line names it
pub record SharingPassesWidth (limits : Limits) (pool : Pool) (line : List ℕ) : Type 0 where
  pub ending : Ending
  pub ends : RunMayEnd pool limits ending
  pub tells : TellsWidth ending line

-- The unbounded run has made `limits.pivots` pivots and another is due; or the opening search needs more than `limits.nodes` visits; or the
-- unbounded run reaches a table where the pricing of `lottery` needs more. The line says which
pub record SharingSpendsBudget (limits : Limits) (pool : Pool) (line : List ℕ) : Type 0 where
  pub ending : Ending
  pub ends : RunMayEnd pool limits ending
  pub tells : TellsBudget limits ending line

-- status 1 is as for `lottery`
abbrev pub SharedLotteryMeans : Limits → Pool → RightAnswers
SharedLotteryMeans limits pool = record (LotteryMeans limits pool) {
  -- status 0
  done = PrintsSharedBundle limits pool;
  -- status 4
  wide = SharingPassesWidth limits pool;
  -- status 5
  spent = SharingSpendsBudget limits pool;
}

-- if no pricing of `lottery` spends its budget, what is right for `lottery --share` is right for `lottery`, so it is the same answer
abbrev pub SharingAnswersAsLottery : Type 0
SharingAnswersAsLottery = (limits : Limits) (pool : Pool) (ending : Ending) (answer : Saying) → IsPool pool → AreLimits limits → RunEnds pool limits ending → IsFalse (spends_pricing ending) →
    IsRight (SharedLotteryMeans limits pool) answer → IsRight (LotteryMeans limits pool) answer
