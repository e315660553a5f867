-- If a stage variable may not enter, the first one that may is among the later ones.
use Rattle.std.proofs.Common.{[], length, sym, ◌∙◌, arith}
use Rattle.define_rows.specs.declared.Var.TheVariants.{Stage}
use Rattle.exact_table.specs.Parts.{with_rows}
use Rattle.exact_table.specs.Best.{may_enter}
use Rattle.exact_table.proofs.BestLaws.{find_from-more}
use Rattle.exact_table.proofs.choosing.first_stage.Goals as goal

pub loop-stage-preserved : goal.loop-stage-preserved
loop-stage-preserved c =
    c.loop-stage.invariant
    ∙ find_from-more (may_enter (with_rows c.args.frame.now c.args.rows.now []) c.args.at) Stage c.loop-stage.stage (length c.args.frame.now.stages) (omega (arith, c.stages-count.ensures)) (sym c.may_enter.ensures ∙ c.if-may_enter.false)
