use Rattle.std.proofs.lemmas.Result.{IfOk-weaker}
use Rattle.std.proofs.Common.{refl, sym, subst}
use Rattle.define_runs.specs.Run.{run_limits}
use Rattle.define_searches.specs.Classes.{are_alike}
use Rattle.define_searches.proofs.AlikeClasses.{alike_makes}
use Rattle.command_shell.specs.Answers.{IsRight, saying}
use Rattle.command_meanings.specs.Lottery.{FindsNone}
use Rattle.command_meanings.specs.Sharing.{SharedLotteryMeans}
use Rattle.command_pools.proofs.SharedAnswers.{none_within, shared_stop_is_right}
use Rattle.command_pools.proofs.sharing.answered.Goals as goal

pub returns-in_ok-write_bundle-in-Ok-Found : goal.returns-in_ok-write_bundle-in-Ok-Found
returns-in_ok-write_bundle-in-Ok-Found g c =
    let ends = rw c.in-Ok-Found.field-0-is at c.in-Ok-Found.ensures.run in
    let certified = rw c.in-Ok-Found.field-0-is at c.in-Ok-Found.ensures.certified in
    record {
      answer = c.in-Ok-Found.answer;
      finds = record { ends = ends; certified = certified.0; greatest = certified.1 };
      bundle = rw c.in-Ok-Found.field-0-is at c.in_ok-write_bundle-in-Ok-Found.ensures.spelled;
    }

pub returns-in-Ok-NoPanel : goal.returns-in-Ok-NoPanel
returns-in-Ok-NoPanel g c =
    let pool = c.args.pool.now in
    let ends = rw c.in-Ok-NoPanel.field-0-is at c.in-Ok-NoPanel.ensures.run in
    let none = rw c.in-Ok-NoPanel.field-0-is at c.in-Ok-NoPanel.ensures.certified in
    let within = none_within pool c.args.command.now.limits ends (c.no_panel_where_none.ensures.within pool (are_alike pool) (alike_makes pool)) in
    let finds : FindsNone c.args.command.now.limits pool = record {
      ends = c.no_panel_where_none.ensures.ends pool (are_alike pool) (alike_makes pool) (run_limits c.args.command.now.limits) none within;
      none = none;
      within = within;
    } in
    IfOk-weaker c.no_panel.result _ _
    (λ answer is. subst (IsRight (SharedLotteryMeans c.args.command.now.limits pool)) (sym is) (record { finds = finds; line = refl })) c.no_panel.ensures

pub returns-in-Err : goal.returns-in-Err
returns-in-Err g c =
    IfOk-weaker c.stop_answer.result _ _
    (λ answer tells. shared_stop_is_right c.args.command.now.limits c.args.pool.now c.in-Err.stop c.in-Err.ensures.run (saying answer) tells) c.stop_answer.ensures
