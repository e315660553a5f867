-- The answers for a stop of the run are right by `SharedLotteryMeans`.
use Rattle.std.proofs.Common.{◌≡◌, ℕ, ◌≤◌, List, Err, refl, sym, subst, arith}
use Rattle.define_pools.specs.Pool.{Pool}
use Rattle.define_searches.specs.Classes.{classes_of}
use Rattle.define_searches.specs.Visits.{first_search}
use Rattle.define_runs.specs.Run.{Ending, Ends, Limits, RunLimits, run_limits}
use Rattle.define_runs.specs.Sharing.{EndsUnbounded, with_pricing}
use Rattle.leximin_run.specs.Answers.{TellsSharing, stood}
use Rattle.leximin_run.specs.declared.stops.Stop.{Stop}
use Rattle.leximin_run.specs.declared.stops.Stop.TheVariants.{TooWide, TotalPasses, PivotsSpent, NodesSpent, OutOfMemory}
use Rattle.command_shell.specs.declared.status.Cause.TheVariants.{Wide, Spent}
use Rattle.command_shell.specs.Answers.{IsRight, Saying, Stops}
use Rattle.command_meanings.specs.Sharing.{SharedLotteryMeans, SharingPassesWidth, SharingSpendsBudget}
use Rattle.command_pools.specs.Found.{TellsStop}

-- the opening search is within its budget if the unbounded run ends without a panel
pub none_within : (pool : Pool) (limits : Limits) → EndsUnbounded (classes_of pool) (run_limits limits) Ending.NoPanel →
    ((free : RunLimits) → Ends (classes_of pool) free Ending.NoPanel → (first_search (classes_of pool)).visits ≤ free.opening) → (first_search (classes_of pool)).visits ≤ limits.nodes
none_within pool limits ends within = within (with_pricing (run_limits limits) ends.least) (ends.holds ends.least (omega arith))

wide_so : (limits : Limits) (pool : Pool) (line : List ℕ) (answer : Saying) → SharingPassesWidth limits pool line → answer ≡ Stops Wide line → IsRight (SharedLotteryMeans limits pool) answer
wide_so limits pool line answer passes e = subst (IsRight (SharedLotteryMeans limits pool)) (sym e) passes

spent_so : (limits : Limits) (pool : Pool) (line : List ℕ) (answer : Saying) → SharingSpendsBudget limits pool line → answer ≡ Stops Spent line → IsRight (SharedLotteryMeans limits pool) answer
spent_so limits pool line answer spends e = subst (IsRight (SharedLotteryMeans limits pool)) (sym e) spends

-- if the run may end with a stop, the answer to this stop is right
pub shared_stop_is_right : (limits : Limits) (pool : Pool) (stop : Stop) → TellsSharing (classes_of pool) (run_limits limits) (Err stop) → (answer : Saying) → TellsStop limits stop answer →
    IsRight (SharedLotteryMeans limits pool) answer
shared_stop_is_right limits pool (TooWide at pass) ends answer is = wide_so limits pool _ answer (record { ending = Ending.TooWide (stood at) pass; ends = ends; tells = refl }) is
shared_stop_is_right limits pool (TotalPasses at place total den) ends answer is =
    wide_so limits pool _ answer (record { ending = Ending.TotalPasses ends.0 ends.1; ends = ends.4; tells = refl }) (is ends.1 ends.3)
shared_stop_is_right limits pool (PivotsSpent at) ends answer is =
    spent_so limits pool _ answer (record { ending = Ending.PivotsSpent ends.0; ends = ends.2; tells = refl }) (rw ends.1 at is)
shared_stop_is_right limits pool (NodesSpent at) ends answer is = spent_so limits pool _ answer (record { ending = Ending.NodesSpent (stood at); ends = ends; tells = refl }) is
shared_stop_is_right limits pool OutOfMemory ends answer is = absurd is
