use Rattle.std.proofs.Common.{◌<◌, length, sym, ◌∙◌, subst}
use Rattle.std.specs.List.{All}
use Rattle.leximin_run.proofs.Ending.{known_columns}
use Rattle.leximin_run.proofs.solving.parts.Goals as goal

pub copied_column-requires : goal.copied_column-requires
copied_column-requires c =
    let table = c.args.table.now in
    let items = c.deref-column-items.ensures.value ∙ c.in_ok-solution.ensures.values in
    let known = subst (All (λ part. part.0 < length table.columns)) (sym items) (known_columns table c.facts.ensures) in
    subst (λ part. part.0 < length table.columns) (sym c.loop-column-item.is) (known c.loop-column.column-index c.loop-column-item.result c.loop-column-test.true)
