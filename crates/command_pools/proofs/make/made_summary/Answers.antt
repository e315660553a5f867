use Rattle.std.proofs.Common.{◌∙◌, ap, refl, sym, subst}
use Rattle.std.proofs.lemmas.Result.{IfOk-weaker}
use Rattle.define_made_pools.specs.MadePools.{made_pool}
use Rattle.define_pools.specs.Pool.{Pool}
use Rattle.define_runs.specs.Run.{run_limits}
use Rattle.define_searches.specs.Classes.{are_alike}
use Rattle.define_searches.proofs.AlikeClasses.{alike_makes}
use Rattle.command_shell.specs.Answers.{IsRight, saying}
use Rattle.command_meanings.specs.Lottery.{PrintsNone}
use Rattle.command_meanings.specs.Make.{MakeMeans, PrintsSummary}
use Rattle.command_pools.proofs.RunAnswers.{made_stop_is_right, sizes_are}
use Rattle.command_pools.proofs.make.made_summary.Goals as goal

pub returns-in-Ok-Found : goal.returns-in-Ok-Found
returns-in-Ok-Found g c =
    let run = rw c.in-Ok-Found.field-0-is at c.in-Ok-Found.ensures.run in
    let certified = rw c.in-Ok-Found.field-0-is at c.in-Ok-Found.ensures.certified in
    let pool = c.in_ok-pool.pool in
    let answer = c.in-Ok-Found.answer in
    let limits = c.args.made.now.limits in
    let made = c.in_ok-pool.ensures ∙ ap (made_pool c.args.made.now.seed) c.number.ensures.value in
    let told = c.in_ok-run_summary-in-Ok-Found.ensures in
    let text = c.into_bytes.result.items in
    let prints : PrintsSummary limits pool text = record {
      answer = answer;
      last = run.0;
      ends = run.2;
      finds = record { ends = (run.0, run.2); certified = certified.0; greatest = certified.1 };
      summary = ap (λ v. v.items) c.into_bytes.ensures.value ∙ (told ∙ sizes_are pool answer c.in-Ok-Found.sizes run.0 run.1);
    } in
    subst (λ (it : Pool). PrintsSummary limits it text) made prints

pub returns-in-Ok-NoPanel : goal.returns-in-Ok-NoPanel
returns-in-Ok-NoPanel g c =
    let ends = rw c.in-Ok-NoPanel.field-0-is at c.in-Ok-NoPanel.ensures.run in
    let pool = c.in_ok-pool.pool in
    let made = c.args.made.now in
    let prints : PrintsNone made.limits pool _ = record {
      finds = record {
        ends = ends;
        none = rw c.in-Ok-NoPanel.field-0-is at c.in-Ok-NoPanel.ensures.certified;
        within = c.no_panel_where_none.ensures.within pool (are_alike pool) (alike_makes pool) (run_limits made.limits) ends;
      };
      line = refl;
    } in
    let same = c.in_ok-pool.ensures ∙ ap (made_pool made.seed) c.number.ensures.value in
    let own = subst (λ (it : Pool). PrintsNone made.limits it _) same prints in
    IfOk-weaker c.no_panel.result _ _ (λ answer is. subst (IsRight (MakeMeans made.seed made.volunteers made.limits)) (sym is) own) c.no_panel.ensures

pub returns : goal.returns
returns g c =
    let pool = c.in_ok-pool.pool in
    let made = c.args.made.now in
    let same = c.in_ok-pool.ensures ∙ ap (made_pool made.seed) c.number.ensures.value in
    IfOk-weaker c.stop_answer.result _ _
    (λ answer tells. made_stop_is_right made.seed made.volunteers made.limits pool same c.in-Err.stop c.in-Err.ensures.run c.in-Err.ensures.spent (saying answer) tells)
    c.stop_answer.ensures
