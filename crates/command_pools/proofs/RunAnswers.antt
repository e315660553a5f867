-- The answers for a stop of the run are right by `LotteryMeans`, `LegsMeans` and `MakeMeans`.
use Rattle.std.proofs.Common.{◌≡◌, ℕ, List, Err, refl, ap, sym, subst}
use Rattle.define_legs.specs.Legs.{RunHasLegs}
use Rattle.define_made_pools.specs.MadePools.{made_pool}
use Rattle.define_made_pools.specs.Summary.{Sizes, summary_text}
use Rattle.define_pools.specs.Certificate.{Answer}
use Rattle.define_pools.specs.Pool.{Pool}
use Rattle.define_rows.specs.Table.{Table}
use Rattle.define_searches.specs.Classes.{classes_of}
use Rattle.define_runs.specs.Run.{Ending, Limits, run_limits}
use Rattle.define_runs.specs.declared.sizes.RunSizes.{RunSizes}
use Rattle.leximin_run.specs.Answers.{SpendsBelowLegs, TellsEnding, sizes_in, stood}
use Rattle.leximin_run.specs.declared.stops.Stop.{Stop}
use Rattle.leximin_run.specs.declared.stops.Stop.TheVariants.{TooWide, TotalPasses, PivotsSpent, NodesSpent, OutOfMemory}
use Rattle.command_shell.specs.declared.status.Cause.TheVariants.{Wide, Spent}
use Rattle.command_shell.specs.Answers.{IsRight, Saying, Stops}
use Rattle.command_meanings.specs.Legs.{LegsMeans}
use Rattle.command_meanings.specs.Lottery.{LotteryMeans, PassesWidth, SpendsBudget}
use Rattle.command_meanings.specs.Make.{MakeMeans, sizes_of}
use Rattle.command_pools.specs.Found.{StopMeans, TellsStop}

-- the answer says that the run stops because a number is too great (status 4) or a budget is spent (status 5)
data TellsRefusal (limits : Limits) (pool : Pool) (answer : Saying) : Type 0 where
  IsWidth : (line : List ℕ) → PassesWidth limits pool line → answer ≡ Stops Wide line → TellsRefusal limits pool answer
  IsBudget : (line : List ℕ) → SpendsBudget limits pool line → answer ≡ Stops Spent line → TellsRefusal limits pool answer

refused : (limits : Limits) (pool : Pool) (stop : Stop) → TellsEnding (classes_of pool) (run_limits limits) (Err stop) → SpendsBelowLegs (classes_of pool) (run_limits limits) stop →
    (answer : Saying) → TellsStop limits stop answer → TellsRefusal limits pool answer
refused limits pool (TooWide at pass) ends below answer is = IsWidth _ (record { ending = Ending.TooWide (stood at) pass; ends = ends; tells = refl }) is
refused limits pool (TotalPasses at place total den) ends below answer is =
    IsWidth _ (record { ending = Ending.TotalPasses ends.0 ends.1; ends = ends.4; tells = refl }) (is ends.1 ends.3)
refused limits pool (PivotsSpent at) ends below answer is =
    let same : below.0 ≡ ends.0 = cc (below.2, ends.1) in
    let has = subst (λ table. RunHasLegs pool limits (Ending.PivotsSpent table) below.1) same below.3 in
    IsBudget _ (record { ending = Ending.PivotsSpent ends.0; ends = ends.2; tells = refl; below = (below.1, has, below.4) }) (rw ends.1 at is)
refused limits pool (NodesSpent at) ends below answer is = IsBudget _ (record { ending = Ending.NodesSpent (stood at); ends = ends; tells = refl; below = tt }) is
refused limits pool OutOfMemory ends below answer is = absurd is

-- if the run ends with a stop, the answer to this stop is right
pub stop_is_right : (limits : Limits) (pool : Pool) (stop : Stop) → TellsEnding (classes_of pool) (run_limits limits) (Err stop) →
    SpendsBelowLegs (classes_of pool) (run_limits limits) stop → (answer : Saying) → TellsStop limits stop answer → IsRight (LotteryMeans limits pool) answer
stop_is_right limits pool stop ends below answer is = right (refused limits pool stop ends below answer is)
  where
    right : TellsRefusal limits pool answer → IsRight (LotteryMeans limits pool) answer
    right (IsWidth line passes e) = subst (IsRight (LotteryMeans limits pool)) (sym e) passes
    right (IsBudget line spends e) = subst (IsRight (LotteryMeans limits pool)) (sym e) spends

-- the same answer, if nothing but a stop is told
pub early_is_right : (limits : Limits) (pool : Pool) (stop : Stop) → TellsEnding (classes_of pool) (run_limits limits) (Err stop) →
    SpendsBelowLegs (classes_of pool) (run_limits limits) stop → (answer : Saying) → TellsStop limits stop answer → IsRight (StopMeans limits pool) answer
early_is_right limits pool stop ends below answer is = right (refused limits pool stop ends below answer is)
  where
    right : TellsRefusal limits pool answer → IsRight (StopMeans limits pool) answer
    right (IsWidth line passes e) = subst (IsRight (StopMeans limits pool)) (sym e) passes
    right (IsBudget line spends e) = subst (IsRight (StopMeans limits pool)) (sym e) spends

-- `legs` answers to a stop as `lottery` does
pub legs_stop_is_right : (limits : Limits) (pool : Pool) (stop : Stop) → TellsEnding (classes_of pool) (run_limits limits) (Err stop) →
    SpendsBelowLegs (classes_of pool) (run_limits limits) stop → (answer : Saying) → TellsStop limits stop answer → IsRight (LegsMeans limits pool) answer
legs_stop_is_right limits pool stop ends below answer is = right (refused limits pool stop ends below answer is)
  where
    right : TellsRefusal limits pool answer → IsRight (LegsMeans limits pool) answer
    right (IsWidth line passes e) = subst (IsRight (LegsMeans limits pool)) (sym e) passes
    right (IsBudget line spends e) = subst (IsRight (LegsMeans limits pool)) (sym e) spends

pub made_stop_is_right : (seed volunteers : ℕ) (limits : Limits) (pool : Pool) → pool ≡ made_pool seed volunteers → (stop : Stop) →
    TellsEnding (classes_of pool) (run_limits limits) (Err stop) → SpendsBelowLegs (classes_of pool) (run_limits limits) stop → (answer : Saying) →
    TellsStop limits stop answer → IsRight (MakeMeans seed volunteers limits) answer
made_stop_is_right seed volunteers limits pool made stop ends below answer is = right (refused limits pool stop ends below answer is)
  where
    right : TellsRefusal limits pool answer → IsRight (MakeMeans seed volunteers limits) answer
    right (IsWidth line passes e) =
        subst (IsRight (MakeMeans seed volunteers limits)) (sym e) (subst (λ (it : Pool). PassesWidth limits it line) made passes)
    right (IsBudget line spends e) =
        subst (IsRight (MakeMeans seed volunteers limits)) (sym e) (subst (λ (it : Pool). SpendsBudget limits it line) made spends)

-- the summary with the sizes of the last table is the same, whether they are `RunSizes` or `sizes_of` the table
pub sizes_are : (pool : Pool) (answer : Answer) (sizes : RunSizes) (last : Table) → sizes ≡ sizes_in last →
    summary_text pool answer (record { classes = sizes.classes; columns = sizes.columns; pivots = sizes.pivots }) ≡ summary_text pool answer (sizes_of last)
sizes_are pool answer sizes last is =
    let told : RunSizes → Sizes = λ s. record { classes = s.classes; columns = s.columns; pivots = s.pivots } in
    ap (λ s. summary_text pool answer (told s)) is
