-- If the run is stated, and the pool was told, status 1 comes exactly if the pool has no quota panel and the opening search is within its budget.
use Rattle.std.specs.Prelude.{◌≢◌, ◌↔◌, ◌≤◌}
use Rattle.std.proofs.Common.{◌≡◌, ◌∙◌, ℕ, List, [], Option, Some, Ok, ap, refl, sym, subst, arith}
use Rattle.define_pools.proofs.LeximinParts.{leximin, panel_in}
use Rattle.define_made_pools.specs.MadePools.{made_pool}
use Rattle.define_offices.specs.Commands.{Change, Outcome, Solve}
use Rattle.define_offices.specs.Deciding.{NeedsRun, asked, asked_over, solve_in, solved}
use Rattle.define_offices.specs.Pools.{pool_of}
use Rattle.define_offices.specs.Steps.{AtOnce, ByRun, Comes}
use Rattle.define_offices.specs.Tables.{Open, Tables, named_round}
use Rattle.define_bundles.specs.PoolText.{spelling}
use Rattle.define_bundles.proofs.PoolReadAgain.{spelled_is_read}
use Rattle.define_pools.specs.Pool.{Pool, panels}
use Rattle.define_runs.specs.Run as run
use Rattle.define_runs.specs.Run.{Ending, Limits, RunEnds, run_limits}
use Rattle.define_runs.proofs.OtherLimits.{one_ending}
use Rattle.define_searches.specs.Classes.{are_alike, classes_of}
use Rattle.define_searches.proofs.AlikeClasses.{alike_makes}
use Rattle.define_runs.specs.Sharing.{RunMayEnd}
use Rattle.define_runs.proofs.Shared.{sharing_keeps}
use Rattle.define_legs.proofs.Endings.{legs_end}
use Rattle.laws_of_runs.proofs.NoPanels.{no_panel_is_within, no_panel_where_none, none_where_no_panel}
use Rattle.command_shell.specs.declared.status.Printed.TheVariants.{Done, NoPanel as NonePrinted, Refused as Rejected}
use Rattle.command_shell.specs.declared.status.Cause.TheVariants.{Input, Wide, Spent, Rule}
use Rattle.command_shell.specs.Answers.{IsRight, IsTheAnswer, Prints, Saying, Stops, status_of}
use Rattle.command_shell.specs.Formats.{pool_format}
use Rattle.command_shell.specs.Outcomes as ends
use Rattle.command_shell.specs.Outcomes.{Outcome as OutcomeTold}
use Rattle.command_shell.specs.Told.{Told}
use Rattle.command_meanings.specs.Legs.{LegsMeans}
use Rattle.command_meanings.specs.Lottery.{LotteryMeans, PassesWidth, SpendsBudget, TellsBudget, TellsWidth}
use Rattle.command_meanings.specs.Make.{MakeMeans}
use Rattle.command_meanings.specs.Panel.{PanelMeans, visits_of}
use Rattle.command_meanings.specs.Sharing.{SharedLotteryMeans}
use Rattle.command_meanings.specs.Steps.{StepMeans, TellsOutcome}
use Rattle.command_stores.specs.StoreOutcomes as over
use Rattle.command_stores.specs.StoreOutcomes.{StoreOutcome}
use Rattle.command_stores.specs.StoreTold.{StoreTold}
use Rattle.command_texts.specs.declared.commands.TextCommand.TheVariants as texts
use Rattle.command_office.specs.declared.asked.Asked.{Asked}
use Rattle.command_office.specs.declared.asked.Asked.TheVariants as asks
use Rattle.command_office.specs.declared.steps.Step.TheVariants as steps
use Rattle.command_office.specs.Office.{AnswersRightly}
use Rattle.command_office.specs.About.{ToldPool, ToldRoundPool}
use Rattle.command_office.specs.About.{nodes_of}
use Rattle.command_office.proofs.Checkers.{due, due_by}
use Rattle.command_office.proofs.Reading.{its_status}
use Rattle.std.specs.Prelude.{IfSome}

-- status 1 comes exactly if there is no quota panel and the opening search is within its budget
abbrev pub IsExactly : ℕ → ℕ → Pool → Type 0
IsExactly status nodes pool = status ≡ 1 ↔ ((panels pool ≡ []) × (visits_of pool ≤ nodes))

module _ (status : ℕ) (pool : Pool) where
  panel_exact : (nodes : ℕ) (answer : Saying) → IsRight (PanelMeans nodes pool) answer → status ≡ status_of answer → IsExactly status nodes pool
  panel_exact nodes (Prints Done text) right is = (λ s. absurd (cc (is, s)), λ (none, within). absurd (panel_in pool right.panel none right.first.fits))
  panel_exact nodes (Prints NonePrinted text) right is = (λ s. (right.none, right.within), λ none. is)
  panel_exact nodes (Prints Rejected text) right is = absurd right
  panel_exact nodes (Stops Spent line) right is = (λ s. absurd (cc (is, s)), λ (none, within). let more = right.more in absurd (omega arith))
  panel_exact nodes (Stops Input line) right is = absurd right
  panel_exact nodes (Stops Wide line) right is = absurd right
  panel_exact nodes (Stops Rule line) right is = absurd right

  module _ (limits : Limits) where
    ends_none : (panels pool ≡ []) → visits_of pool ≤ limits.nodes → RunEnds pool limits run.NoPanel
    ends_none none within = no_panel_where_none pool (are_alike pool) (alike_makes pool) (run_limits limits) none within

    only_none : (ending : Ending) → RunEnds pool limits ending → (panels pool ≡ []) → visits_of pool ≤ limits.nodes → ending ≡ run.NoPanel
    only_none ending ends none within = one_ending pool limits ending run.NoPanel ends (ends_none none within)

    not_wide : (line : List ℕ) → PassesWidth limits pool line → (panels pool ≡ []) → visits_of pool ≤ limits.nodes → ⊥
    not_wide line passes none within = subst (λ e. TellsWidth e line) (only_none passes.ending passes.ends none within) passes.tells

    not_spent : (line : List ℕ) → SpendsBudget limits pool line → (panels pool ≡ []) → visits_of pool ≤ limits.nodes → ⊥
    not_spent line spends none within = subst (λ e. TellsBudget limits e line) (only_none spends.ending spends.ends none within) spends.tells

    lottery_exact : (answer : Saying) → IsRight (LotteryMeans limits pool) answer → status ≡ status_of answer → IsExactly status limits.nodes pool
    lottery_exact (Prints Done text) right is = (λ s. absurd (cc (is, s)), λ (none, within). absurd ((leximin pool right.answer.lottery right.finds.greatest).exists none))
    lottery_exact (Prints NonePrinted text) right is = (λ s. (right.finds.none, right.finds.within), λ none. is)
    lottery_exact (Prints Rejected text) right is = absurd right
    lottery_exact (Stops Wide line) right is = (λ s. absurd (cc (is, s)), λ (none, within). absurd (not_wide line right none within))
    lottery_exact (Stops Spent line) right is = (λ s. absurd (cc (is, s)), λ (none, within). absurd (not_spent line right none within))
    lottery_exact (Stops Input line) right is = absurd right
    lottery_exact (Stops Rule line) right is = absurd right

    -- ---- workers that share a bound

    only_none_shared : (ending : Ending) → RunMayEnd pool limits ending → (panels pool ≡ []) → visits_of pool ≤ limits.nodes → ending ≡ run.NoPanel
    only_none_shared ending may none within = sharing_keeps (classes_of pool) (run_limits limits) run.NoPanel ending (ends_none none within) refl may

    shared_exact : (answer : Saying) → IsRight (SharedLotteryMeans limits pool) answer → status ≡ status_of answer → IsExactly status limits.nodes pool
    shared_exact (Prints Done text) right is = (λ s. absurd (cc (is, s)), λ (none, within). absurd ((leximin pool right.answer.lottery right.finds.greatest).exists none))
    shared_exact (Stops Wide line) right is =
        (λ s. absurd (cc (is, s)), λ (none, within). absurd (subst (λ e. TellsWidth e line) (only_none_shared right.ending right.ends none within) right.tells))
    shared_exact (Stops Spent line) right is =
        (λ s. absurd (cc (is, s)), λ (none, within). absurd (subst (λ e. TellsBudget limits e line) (only_none_shared right.ending right.ends none within) right.tells))
    shared_exact answer right is = lottery_exact answer right is

    -- `legs` makes the same run
    legs_exact : (answer : Saying) → IsRight (LegsMeans limits pool) answer → status ≡ status_of answer → IsExactly status limits.nodes pool
    legs_exact (Prints Done text) right is = (λ s. absurd (cc (is, s)), λ (none, within). absurd (cc (only_none (run.Found right.last right.answer) ends none within)))
      where
        ends : RunEnds pool limits (run.Found right.last right.answer)
        ends = legs_end (classes_of pool) (run_limits limits) (run.Found right.last right.answer) right.legs right.ends
    legs_exact answer right is = lottery_exact answer right is

    -- ---- a solve of an open round

    ended_exact : (ending : Ending) (number : ℕ) (answer : Saying) → RunEnds pool limits ending → TellsOutcome (Solve number limits) (solved number pool ending) answer → status ≡ status_of answer →
        IsExactly status limits.nodes pool
    ended_exact run.NoPanel number answer ends tells is =
        (λ s. (none_where_no_panel pool (are_alike pool) (alike_makes pool) (run_limits limits) ends, no_panel_is_within pool (are_alike pool) (alike_makes pool) (run_limits limits) ends), λ none. is ∙ ap status_of tells)
    ended_exact (run.Found last found) number answer ends tells is =
        (λ s. absurd (cc (sym s ∙ is ∙ ap status_of tells)), λ (none, within). absurd (cc (only_none (run.Found last found) ends none within)))
    ended_exact (run.TooWide stood pass) number answer ends tells is =
        (λ s. absurd (cc (sym s ∙ is ∙ ap status_of tells)), λ (none, within). absurd (cc (only_none (run.TooWide stood pass) ends none within)))
    ended_exact (run.TotalPasses stood pass) number answer ends tells is =
        (λ s. absurd (cc (sym s ∙ is ∙ ap status_of tells)), λ (none, within). absurd (cc (only_none (run.TotalPasses stood pass) ends none within)))
    ended_exact (run.PivotsSpent stood) number answer ends tells is =
        (λ s. absurd (cc (sym s ∙ is ∙ ap status_of tells)), λ (none, within). absurd (cc (only_none (run.PivotsSpent stood) ends none within)))
    ended_exact (run.NodesSpent stood) number answer ends tells is =
        (λ s. absurd (cc (sym s ∙ is ∙ ap status_of tells)), λ (none, within). absurd (cc (only_none (run.NodesSpent stood) ends none within)))

    needs : (tables : Tables) (number : ℕ) → named_round tables.rounds number ≡ Some Open → pool_of tables number ≡ Ok pool → asked tables (Solve number limits) ≡ NeedsRun pool
    needs tables number open_now of = ap (solve_in tables number) open_now ∙ ap asked_over of

    solve_exact : (tables : Tables) (number : ℕ) (answer : Saying) (change : Option Change) → named_round tables.rounds number ≡ Some Open → pool_of tables number ≡ Ok pool →
        StepMeans (Solve number limits) tables answer change → status ≡ status_of answer → IsExactly status limits.nodes pool
    solve_exact tables number answer change open_now of means is = by means.outcome means.comes means.tells
      where
        by : (outcome : Outcome) → Comes tables (Solve number limits) outcome → TellsOutcome (Solve number limits) outcome answer → IsExactly status limits.nodes pool
        by outcome (AtOnce h) tells = absurd (cc (h, needs tables number open_now of))
        by outcome (ByRun n l own ending same asks_it ends comes) tells =
            let equal : l ≡ limits = cc in
            let number_so : n ≡ number = cc in
            let pools : own ≡ pool = cc (asks_it, needs tables number open_now of) in
            ended_exact ending number answer (subst (λ p. RunEnds p limits ending) pools (subst (λ x. RunEnds own x ending) equal ends))
            (subst (λ o. TellsOutcome (Solve number limits) o answer) (comes ∙ ap (λ p. solved n p ending) pools ∙ ap (λ m. solved m pool ending) number_so) tells) is

-- what is exact of the made pool
made_exact : (told : Told) (seed volunteers : ℕ) (limits : Limits) → OutcomeTold (IsTheAnswer (MakeMeans seed volunteers limits)) told → told.status ≢ 8 → told.status ≢ 12 →
    IsExactly told.status limits.nodes (made_pool seed volunteers)
made_exact told seed volunteers limits (ends.Answered answer right is) n8 n12 = by answer right.right (its_status answer told is)
  where
    by : (answer : Saying) → IsRight (MakeMeans seed volunteers limits) answer → told.status ≡ status_of answer → IsExactly told.status limits.nodes (made_pool seed volunteers)
    by (Prints Done text) right is = (λ s. absurd (cc (is, s)), λ (none, within). absurd ((leximin (made_pool seed volunteers) right.answer.lottery right.finds.greatest).exists none))
    by answer right is = lottery_exact told.status (made_pool seed volunteers) limits answer right is
made_exact told seed volunteers limits (ends.WriteFault printed text right cut) n8 n12 = absurd (n8 cut.status)
made_exact told seed volunteers limits (ends.WantOfMemory want) n8 n12 = absurd (n12 want.status)

round_exact : (path : List ℕ) (told : StoreTold) (round : ℕ) (limits : Limits) (pool : Pool) → ToldRoundPool round told pool → StoreOutcome path (StepMeans (Solve round limits)) told →
    told.call.status ≢ 8 → told.call.status ≢ 9 → told.call.status ≢ 12 → IsExactly told.call.status limits.nodes pool
round_exact path told round limits pool from (over.Answered answer is tells) n8 n9 n12 =
    let same : is.tables ≡ from.tables = subst (λ kept. IfSome kept (λ own. is.tables ≡ own)) from.kept is.loaded.same in
    solve_exact told.call.status pool limits from.tables round answer is.change from.open_now from.is (subst (λ t. StepMeans (Solve round limits) t answer is.change) same is.means) (its_status answer told.call tells)
round_exact path told round limits pool from (over.WriteFault printed text is cut) n8 n9 n12 = absurd (n8 cut.status)
round_exact path told round limits pool from (over.KeeperFault failed stopped) n8 n9 n12 = absurd (n9 stopped.status)
round_exact path told round limits pool from (over.WantOfMemory nothing stopped) n8 n9 n12 = absurd (n12 stopped.status)

module _ (told : StoreTold) (nodes : ℕ) (pool : Pool) where
  abbrev Exact : ℕ → Type 0
  Exact budget = IsExactly told.call.status budget pool

  pub exactly : (it : Option Asked) → AnswersRightly it told → nodes_of it ≡ Some nodes → ToldPool it told pool → told.call.status ≢ 8 → told.call.status ≢ 9 → told.call.status ≢ 12 → Exact nodes
  exactly (Some (asks.Text (texts.Panel it))) right has (is_pool, from) n8 n9 n12 =
      let own = due pool_format (PanelMeans it.nodes) told.call pool (spelling pool) (spelled_is_read pool is_pool) from n8 n12 right.call in
      let same : it.nodes ≡ nodes = cc in
      subst Exact same (panel_exact told.call.status pool it.nodes own.answer own.right own.status)
  exactly (Some (asks.Lottery it)) right has (is_pool, from) n8 n9 n12 =
      let own = due pool_format (LotteryMeans it.limits) told.call pool (spelling pool) (spelled_is_read pool is_pool) from n8 n12 right.call in
      let same : it.limits.nodes ≡ nodes = cc in
      subst Exact same (lottery_exact told.call.status pool it.limits own.answer own.right own.status)
  exactly (Some (asks.SharedLottery it)) right has (is_pool, from) n8 n9 n12 =
      let own = due_by pool_format (λ pool. IsRight (SharedLotteryMeans it.limits pool)) told.call pool (spelling pool) (spelled_is_read pool is_pool) from n8 n12 right.call in
      let same : it.limits.nodes ≡ nodes = cc in
      subst Exact same (shared_exact told.call.status pool it.limits own.answer own.right own.status)
  exactly (Some (asks.Legs it)) right has (is_pool, from) n8 n9 n12 =
      let own = due pool_format (LegsMeans it.limits) told.call pool (spelling pool) (spelled_is_read pool is_pool) from n8 n12 right.call in
      let same : it.limits.nodes ≡ nodes = cc in
      subst Exact same (legs_exact told.call.status pool it.limits own.answer own.right own.status)
  exactly (Some (asks.Make it)) right has is n8 n9 n12 =
      let same : it.limits.nodes ≡ nodes = cc in
      subst Exact same (subst (λ p. IsExactly told.call.status it.limits.nodes p) (sym is) (made_exact told.call it.seed it.volunteers it.limits right.call.ends n8 n12))
  exactly (Some (asks.Step store (steps.Solve round limits workers))) right has from n8 n9 n12 =
      let same : limits.nodes ≡ nodes = cc in subst Exact same (round_exact store told round limits pool from right.ends n8 n9 n12)
  exactly other right has from n8 n9 n12 = absurd (cc (has))
