-- If no pricing of the run spends its budget, `lottery --share` answers as `lottery` does.
use Rattle.std.proofs.Common.{◌≡◌, false, sym, subst}
use Rattle.define_pools.specs.Pool.{IsPool, Pool}
use Rattle.define_runs.specs.Keeps.{AreLimits}
use Rattle.define_runs.specs.Run.{Ending, Limits, RunEnds, run_limits}
use Rattle.define_searches.specs.Classes.{are_alike, classes_of}
use Rattle.define_searches.proofs.AlikeClasses.{alike_makes}
use Rattle.define_searches.proofs.Limits.{limits_kept}
use Rattle.define_runs.specs.Sharing.{RunMayEnd, spends_pricing}
use Rattle.define_runs.proofs.Shared.{sharing_keeps}
use Rattle.define_legs.proofs.Endings.{each_has_legs, spends_below}
use Rattle.command_shell.specs.declared.status.Printed.TheVariants.{Done, NoPanel}
use Rattle.command_shell.specs.declared.status.Cause.TheVariants.{Wide, Spent}
use Rattle.command_shell.specs.Answers.{IsRight, Saying, Prints, Stops}
use Rattle.command_meanings.specs.Lottery.{IsBelowBounds, LotteryMeans}
use Rattle.command_meanings.specs.Sharing.{SharedLotteryMeans}

module _ (limits : Limits) (pool : Pool) (ending : Ending) (is_pool : IsPool pool) (ranges : AreLimits limits) (ends : RunEnds pool limits ending) (kept : spends_pricing ending ≡ false) where
  -- the ending of the run with sharing is the one without
  same : (other : Ending) → RunMayEnd pool limits other → RunEnds pool limits other
  same other may = subst (RunEnds pool limits) (sym (sharing_keeps (classes_of pool) (run_limits limits) ending other ends kept may)) ends

  below : (other : Ending) → RunEnds pool limits other → IsBelowBounds limits pool other
  below (Ending.PivotsSpent table) own =
      let legs = each_has_legs (classes_of pool) (run_limits limits) (Ending.PivotsSpent table) own in
      (legs.0, legs.1, spends_below (classes_of pool) (run_limits limits) table legs.0 (limits_kept pool (are_alike pool) is_pool (alike_makes pool)) ranges legs.1)
  below (Ending.NodesSpent stood) own = tt
  below (Ending.TooWide stood pass) own = tt
  below (Ending.TotalPasses table pass) own = tt
  below (Ending.Found last answer) own = tt
  below Ending.NoPanel own = tt

  pub shared_as_lottery : (answer : Saying) → IsRight (SharedLotteryMeans limits pool) answer → IsRight (LotteryMeans limits pool) answer
  shared_as_lottery (Prints Done text) right = record {
    answer = right.answer;
    finds = record { ends = (right.finds.ends.0, same (Ending.Found right.finds.ends.0 right.answer) right.finds.ends.1); certified = right.finds.certified; greatest = right.finds.greatest };
    bundle = right.bundle;
  }
  shared_as_lottery (Prints NoPanel text) right = right
  shared_as_lottery (Stops Wide line) right = record { ending = right.ending; ends = same right.ending right.ends; tells = right.tells }
  shared_as_lottery (Stops Spent line) right =
      let own = same right.ending right.ends in record { ending = right.ending; ends = own; tells = right.tells; below = below right.ending own }
  shared_as_lottery answer right = absurd right
