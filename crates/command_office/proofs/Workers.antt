-- Two calls of one command tell the same if their words differ in the number of workers alone.
use Rattle.std.proofs.Common.{◌≡◌, ◌∙◌, ◌≤◌, ℕ, false, List, length, Some, ap, sym, subst, inl, inr}
use Rattle.std.specs.Prelude.{IfSome, option_map}
use Rattle.define_offices.specs.Commands.{Solve}
use Rattle.define_offices.specs.Steps.{applied}
use Rattle.define_offices.specs.Tables.{Tables}
use Rattle.define_bundles.specs.PoolText.{spelling}
use Rattle.define_bundles.proofs.PoolReadAgain.{spelled_is_read}
use Rattle.define_pools.specs.Pool.{IsPool, Pool}
use Rattle.define_runs.specs.Keeps.{AreLimits}
use Rattle.define_runs.specs.Run.{Ending, Limits, RunEnds}
use Rattle.define_runs.specs.Sharing.{spends_pricing}
use Rattle.office_core.specs.Acting.{IsLoaded}
use Rattle.command_shell.specs.Answers.{IsRight, IsTheAnswer, RightAnswers, Saying}
use Rattle.command_shell.specs.Formats.{pool_format}
use Rattle.command_shell.specs.Lines.{input_limit}
use Rattle.command_shell.specs.Outcomes.{Answered, Ends, IsAboutSource, IsTold, Outcome, ReadFault, TextOutcome, TooLong, WantOfMemory, WriteFault}
use Rattle.command_shell.specs.Subjects.{About, AboutFault, AboutValue, Format}
use Rattle.command_meanings.specs.Legs.{LegsMeans}
use Rattle.command_meanings.specs.Lottery.{LotteryMeans}
use Rattle.command_meanings.specs.Make.{MakeMeans}
use Rattle.command_meanings.specs.Sharing.{SharedLotteryMeans}
use Rattle.command_meanings.proofs.SharedEndings.{shared_as_lottery}
use Rattle.command_meanings.specs.Steps.{StepMeans, StepsAnswerOnce}
use Rattle.command_stores.specs.StoreOutcomes as over
use Rattle.command_stores.specs.StoreOutcomes.{StoreOutcome}
use Rattle.command_stores.specs.StoreTold.{StoreTold}
use Rattle.command_desk.specs.DeskTold.{DeskTold}
use Rattle.command_office.specs.Office.{Answers, Asks, EndsRightly, NoMemory}
use Rattle.command_office.specs.declared.asked.Asked.{Asked}
use Rattle.command_office.specs.Workers.{IsClear, OfEachTwo, TellTheSame, WorkersChangeNothing}
use Rattle.command_office.specs.About.{ToldText}
use Rattle.command_office.proofs.Checkers.{due_by, not_longer, same_text}

module _ {Value : Type 0} (format : Format Value) (Means : Value → RightAnswers) where
  abbrev OneAbout : List ℕ → Saying → Type 0
  OneAbout = About format (λ value. IsTheAnswer (Means value))

  -- about given bytes, at most one answer is right
  one_about : (bytes : List ℕ) (first second : Saying) → OneAbout bytes first → OneAbout bytes second → first ≡ second
  one_about bytes first second (AboutValue a ra sa ma) (AboutValue b rb sb mb) =
      let same : b ≡ a = cc (ra, rb) in
      mb.only first (subst (λ value. IsRight (Means value) first) (sym same) ma.right)
  one_about bytes first second (AboutValue a ra sa ma) (AboutFault fault fails e) = absurd (cc (ra, fails))
  one_about bytes first second (AboutFault fault fails e) (AboutValue b rb sb mb) = absurd (cc (rb, fails))
  one_about bytes first second (AboutFault fault fails e) (AboutFault other others f) = cc

  module _ (first second : StoreTold) (clear : IsClear first) (also : IsClear second) (text : List ℕ) (first_told : first.call.source.before ≡ Some text) (second_told : second.call.source.before ≡ Some text) where
    answered : (one other : Saying) → IsTold one first.call → IsTold other second.call → IsAboutSource OneAbout first.call.source one → IsAboutSource OneAbout second.call.source other → TellTheSame first.call second.call
    answered one other is was right wrong =
        let here = same_text first.call.source.before first.call.source.after text right.bytes first_told right.held in
        let there = same_text second.call.source.before second.call.source.after text wrong.bytes second_told wrong.held in
        let same = one_about text one other (subst (λ bytes. OneAbout bytes one) here right.means) (subst (λ bytes. OneAbout bytes other) there wrong.means) in
        inl (one, is, subst (λ it. IsTold it second.call) (sym same) was)

    tell_the_same : Answers format Means first.call → Answers format Means second.call → TellTheSame first.call second.call
    tell_the_same (Ends (Answered one right is)) (Ends (Answered other wrong was)) = answered one other is was right wrong
    tell_the_same (Ends (Answered one right is)) (TooLong long) =
        let here = same_text first.call.source.before first.call.source.after text right.bytes first_told right.held in
        absurd (not_longer second.call.source.before second.call.source.after text input_limit second_told (subst (λ bytes. length bytes ≤ input_limit) here right.within) long.held)
    tell_the_same (TooLong long) (Ends (Answered other wrong was)) =
        let there = same_text second.call.source.before second.call.source.after text wrong.bytes second_told wrong.held in
        absurd (not_longer first.call.source.before first.call.source.after text input_limit first_told (subst (λ bytes. length bytes ≤ input_limit) there wrong.within) long.held)
    tell_the_same (TooLong long) (TooLong longer) = inr (long, longer)
    tell_the_same (Ends (WriteFault printed cut_text right cut)) other = absurd (clear.out cut.status)
    tell_the_same (Ends (WantOfMemory want)) other = absurd (clear.memory want.status)
    tell_the_same (ReadFault fault) other = absurd (clear.source fault.faulted)
    tell_the_same (Ends (Answered one right is)) (Ends (WriteFault printed cut_text wrong cut)) = absurd (also.out cut.status)
    tell_the_same (Ends (Answered one right is)) (Ends (WantOfMemory want)) = absurd (also.memory want.status)
    tell_the_same (Ends (Answered one right is)) (ReadFault fault) = absurd (also.source fault.faulted)
    tell_the_same (TooLong long) (Ends (WriteFault printed cut_text wrong cut)) = absurd (also.out cut.status)
    tell_the_same (TooLong long) (Ends (WantOfMemory want)) = absurd (also.memory want.status)
    tell_the_same (TooLong long) (ReadFault fault) = absurd (also.source fault.faulted)

module _ (first second : StoreTold) (clear : IsClear first) (also : IsClear second) where
  -- two calls that read nothing, and have one right answer
  silent_same : (meaning : RightAnswers) → Outcome (IsTheAnswer meaning) first.call → Outcome (IsTheAnswer meaning) second.call → TellTheSame first.call second.call
  silent_same meaning (Answered one right is) (Answered other wrong was) = inl (one, is, subst (λ it. IsTold it second.call) (right.only other wrong.right) was)
  silent_same meaning (WriteFault printed text right cut) other = absurd (clear.out cut.status)
  silent_same meaning (WantOfMemory want) other = absurd (clear.memory want.status)
  silent_same meaning (Answered one right is) (WriteFault printed text wrong cut) = absurd (also.out cut.status)
  silent_same meaning (Answered one right is) (WantOfMemory want) = absurd (also.memory want.status)

  -- two solves over the same tables
  module _ (once : StepsAnswerOnce) (round : ℕ) (limits : Limits) (tables : Tables) (b : first.keeper.object.before ≡ Some tables) (c : second.keeper.object.before ≡ Some tables) where
    loaded_is : (told : StoreTold) (own : Tables) → told.keeper.object.before ≡ Some tables → IsLoaded told.keeper.object.before own → own ≡ tables
    loaded_is told own at is = subst (λ kept. IfSome kept (λ it. own ≡ it)) at is.same

    abbrev Solved : Type 0
    Solved = TellTheSame first.call second.call × (first.keeper.object.after ≡ second.keeper.object.after)

    solved_same : (path other_path : List ℕ) → StoreOutcome path (StepMeans (Solve round limits)) first → StoreOutcome other_path (StepMeans (Solve round limits)) second → Solved
    solved_same path other_path (over.Answered one is tells) (over.Answered other was tells_too) =
        let here = subst (λ t. StepMeans (Solve round limits) t one is.change) (loaded_is first is.tables b is.loaded) is.means in
        let there = subst (λ t. StepMeans (Solve round limits) t other was.change) (loaded_is second was.tables c was.loaded) was.means in
        let (answers, changes) = once (Solve round limits) tables one other is.change was.change here there in (
          inl (one, tells, subst (λ it. IsTold it second.call) (sym answers) tells_too),
          is.stored ∙ (ap (λ it. option_map (λ kept. applied kept it) first.keeper.object.before) changes ∙ (ap (option_map (λ kept. applied kept was.change)) (b ∙ sym c) ∙ sym was.stored)),
        )
    solved_same path other_path (over.WriteFault printed text is cut) other = absurd (clear.out cut.status)
    solved_same path other_path (over.KeeperFault failed stopped) other = absurd (clear.keeper stopped.status)
    solved_same path other_path (over.WantOfMemory nothing stopped) other = absurd (clear.memory stopped.status)
    solved_same path other_path (over.Answered one is tells) (over.WriteFault printed text was cut) = absurd (also.out cut.status)
    solved_same path other_path (over.Answered one is tells) (over.KeeperFault failed stopped) = absurd (also.keeper stopped.status)
    solved_same path other_path (over.Answered one is tells) (over.WantOfMemory nothing stopped) = absurd (also.memory stopped.status)

-- `lottery` and `lottery --share` over the same pool tell the same, if no pricing of `lottery` spends its budget
module _ (limits : Limits) (pool : Pool) (ending : Ending) (is_pool : IsPool pool) (ranges : AreLimits limits) (ends : RunEnds pool limits ending) (kept : spends_pricing ending ≡ false) where
  shares_same : (first second : StoreTold) → IsClear first → IsClear second → ToldText first.call.source (spelling pool) → ToldText second.call.source (spelling pool) →
      Answers pool_format (LotteryMeans limits) first.call → TextOutcome (About pool_format (λ it. IsRight (SharedLotteryMeans limits it))) second.call → TellTheSame first.call second.call
  shares_same first second clear also from from_too one two =
      let own = due_by pool_format (λ it. IsTheAnswer (LotteryMeans limits it)) first.call pool (spelling pool) (spelled_is_read pool is_pool) from clear.out clear.memory one in
      let other = due_by pool_format (λ it. IsRight (SharedLotteryMeans limits it)) second.call pool (spelling pool) (spelled_is_read pool is_pool) from_too also.out also.memory two in
      let same = own.right.only other.answer (shared_as_lottery limits pool ending is_pool ranges ends kept other.answer other.right) in
      inl (own.answer, own.tells, subst (λ answer. IsTold answer second.call) same other.tells)

-- what holds of each two calls that end rightly holds of each two right calls
of_each : (it other : Asked) (Same : StoreTold → StoreTold → Type 0) →
    ((first second : DeskTold) → EndsRightly (Some it) first → EndsRightly (Some other) second → IsClear first.store → IsClear second.store → Same first.store second.store) → OfEachTwo it other Same
of_each it other Same holds words others first second (Asks one) (Asks two) is was clear also =
    holds first second (subst (λ asked_for. EndsRightly asked_for first) is one) (subst (λ asked_for. EndsRightly asked_for second) was two) clear also
of_each it other Same holds words others first second (NoMemory want) two is was clear also = absurd (clear.memory want.call.call.stopped.status)
of_each it other Same holds words others first second (Asks one) (NoMemory want) is was clear also = absurd (also.memory want.call.call.stopped.status)

pub workers_change_nothing : StepsAnswerOnce → WorkersChangeNothing
workers_change_nothing once = record {
  lottery = λ limits workers others. of_each _ _ _ (λ first second one two clear also text told also_told.
      tell_the_same pool_format (LotteryMeans limits) first.store second.store clear also text told also_told one.call.call two.call.call);
  share = λ limits workers others. of_each _ _ _ (λ first second one two clear also pool ending is_pool ranges ends kept from from_too.
      shares_same limits pool ending is_pool ranges ends kept first.store second.store clear also from from_too one.call.call two.call.call);
  legs = λ limits workers others. of_each _ _ _ (λ first second one two clear also text told also_told.
      tell_the_same pool_format (LegsMeans limits) first.store second.store clear also text told also_told one.call.call two.call.call);
  make = λ seed volunteers limits workers others. of_each _ _ _ (λ first second one two clear also. silent_same first.store second.store clear also (MakeMeans seed volunteers limits) one.call.call.ends two.call.call.ends);
  solve = λ store other_store round limits workers others. of_each _ _ _ (λ first second one two clear also tables b c.
      solved_same first.store second.store clear also once round limits tables b c store other_store one.call.ends two.call.ends);
}
