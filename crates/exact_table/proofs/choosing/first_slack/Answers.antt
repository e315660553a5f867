-- If a slack may not enter, the first one that may is among the later slacks.
use Rattle.std.proofs.Common.{◌≡◌, [], length, sym, ap, ◌∙◌, arith}
use Rattle.define_rows.specs.declared.Var.TheVariants.{Slack}
use Rattle.exact_table.specs.Parts.{with_rows}
use Rattle.exact_table.specs.Best.{may_enter}
use Rattle.exact_table.proofs.BestLaws.{find_from-more}
use Rattle.exact_table.proofs.choosing.first_slack.Goals as goal

pub loop-class-preserved : goal.loop-class-preserved
loop-class-preserved c =
    let same : length c.sizes-count.result.now ≡ length c.args.frame.now.sizes = ap length c.sizes-count.ensures in
    c.loop-class.invariant
    ∙ find_from-more (may_enter (with_rows c.args.frame.now c.args.rows.now []) c.args.at) Slack c.loop-class.class (length c.args.frame.now.sizes) (omega arith) (sym c.may_enter.ensures ∙ c.if-may_enter.false)
