-- If a column may not enter, the first one that may is among the later columns.
use Rattle.std.proofs.Common.{◌≡◌, [], length, sym, ap, ◌∙◌, arith}
use Rattle.define_rows.specs.declared.Var.TheVariants.{Column}
use Rattle.exact_table.specs.Parts.{with_rows}
use Rattle.exact_table.specs.Best.{may_enter}
use Rattle.exact_table.proofs.BestLaws.{find_from-more}
use Rattle.exact_table.proofs.choosing.first_column.Goals as goal

pub loop-column-preserved : goal.loop-column-preserved
loop-column-preserved c =
    let same : length c.columns-count.result.now ≡ length c.args.frame.now.columns = ap length c.columns-count.ensures in
    c.loop-column.invariant
    ∙ find_from-more (may_enter (with_rows c.args.frame.now c.args.rows.now []) c.args.at) Column c.loop-column.column (length c.args.frame.now.columns) (omega arith) (sym c.may_enter.ensures ∙ c.if-may_enter.false)
