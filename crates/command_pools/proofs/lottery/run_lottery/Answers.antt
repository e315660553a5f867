use Rattle.std.proofs.Common.{◌∙◌, ap, sym, subst}
use Rattle.define_bundles.specs.BundleText.{Bundle}
use Rattle.define_bundles.specs.Ranges.{IsInRanges}
use Rattle.define_pools.specs.Pool.{Pool}
use Rattle.define_runs.specs.Run.{run_limits}
use Rattle.define_searches.specs.Classes.{are_alike}
use Rattle.define_searches.proofs.AlikeClasses.{alike_makes}
use Rattle.command_shell.specs.Answers.{saying}
use Rattle.command_meanings.specs.Lottery.{FindsGreatest}
use Rattle.command_pools.proofs.RunAnswers.{early_is_right}
use Rattle.command_pools.proofs.lottery.run_lottery.Goals as goal

pub bundle_of-requires : goal.bundle_of-requires
bundle_of-requires g c =
    let ranges = rw c.in-Ok-Found.field-0-is at c.in-Ok-Found.ensures.ranges in
    let kept : IsInRanges c.in_ok-copy-in-Ok-Found.field-0 c.in-Ok-Found.answer =
    subst (λ (pool : Pool). IsInRanges pool c.in-Ok-Found.answer) (sym c.in_ok-copy-in-Ok-Found.ensures) ranges in
    rw c.in-Ok-Found.field-0-is kept

pub returns-in_ok-copy-in-Ok-Found : goal.returns-in_ok-copy-in-Ok-Found
returns-in_ok-copy-in-Ok-Found g c =
    let ends = rw c.in-Ok-Found.field-0-is at c.in-Ok-Found.ensures.run in
    let certified = rw c.in-Ok-Found.field-0-is at c.in-Ok-Found.ensures.certified in
    let finds : FindsGreatest c.args.limits c.args.pool.now c.in-Ok-Found.answer = record { ends = ends; certified = certified.0; greatest = certified.1 } in
    let same = rw c.in-Ok-Found.field-0-is at c.bundle_of.ensures in (
      ap (λ (bundle : Bundle). bundle.pool) same ∙ c.in_ok-copy-in-Ok-Found.ensures,
      subst (λ (bundle : Bundle). FindsGreatest c.args.limits c.args.pool.now bundle.answer) (sym same) finds,
    )

pub returns-in-Ok-NoPanel : goal.returns-in-Ok-NoPanel
returns-in-Ok-NoPanel g c =
    let ends = rw c.in-Ok-NoPanel.field-0-is at c.in-Ok-NoPanel.ensures.run in
    record {
      ends = ends;
      none = rw c.in-Ok-NoPanel.field-0-is at c.in-Ok-NoPanel.ensures.certified;
      within = c.no_panel_where_none.ensures.within c.args.pool.now (are_alike c.args.pool.now) (alike_makes c.args.pool.now) (run_limits c.args.limits) ends;
    }

pub returns-in_ok-stop_answer-in-Err : goal.returns-in_ok-stop_answer-in-Err
returns-in_ok-stop_answer-in-Err g c =
    early_is_right c.args.limits c.args.pool.now c.in-Err.stop c.in-Err.ensures.run c.in-Err.ensures.spent (saying c.in_ok-stop_answer-in-Err.field-0)
    c.in_ok-stop_answer-in-Err.ensures
