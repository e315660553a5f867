use Rattle.std.proofs.Common.{refl, sym, subst}
use Rattle.std.proofs.lemmas.Result.{IfOk-weaker}
use Rattle.define_runs.specs.Run.{run_limits}
use Rattle.define_searches.specs.Classes.{are_alike}
use Rattle.define_searches.proofs.AlikeClasses.{alike_makes}
use Rattle.command_shell.specs.Answers.{IsRight, saying}
use Rattle.command_meanings.specs.Legs.{LegsMeans}
use Rattle.command_meanings.specs.Lottery.{FindsNone}
use Rattle.command_pools.proofs.RunAnswers.{legs_stop_is_right}
use Rattle.command_pools.proofs.legs.traced.Goals as goal

pub returns-in-Ok-NoPanel : goal.returns-in-Ok-NoPanel
returns-in-Ok-NoPanel g c =
    let ends = rw c.in-Ok-NoPanel.field-0-is at c.in-Ok-NoPanel.ensures.run in
    let finds : FindsNone c.args.limits c.args.pool.now = record {
      ends = ends;
      none = rw c.in-Ok-NoPanel.field-0-is at c.in-Ok-NoPanel.ensures.certified;
      within = c.no_panel_where_none.ensures.within c.args.pool.now (are_alike c.args.pool.now) (alike_makes c.args.pool.now) (run_limits c.args.limits) ends;
    } in
    IfOk-weaker c.no_panel.result _ _
    (λ answer is. subst (IsRight (LegsMeans c.args.limits c.args.pool.now)) (sym is) (record { finds = finds; line = refl })) c.no_panel.ensures

pub returns : goal.returns
returns g c =
    IfOk-weaker c.stop_answer.result _ _
    (λ answer tells. legs_stop_is_right c.args.limits c.args.pool.now c.in-Err.stop c.in-Err.ensures.run c.in-Err.ensures.spent (saying answer) tells) c.stop_answer.ensures
