use Rattle.std.proofs.Common.{[], ◌∷◌, ◌++◌, ap, ◌∙◌}
use Rattle.define_rows.specs.Table.{Table}
use Rattle.define_rows.specs.Steps.{add_column}
use Rattle.exact_table.specs.Parts.{frame_of}
use Rattle.exact_table.proofs.frame.Frame.add.Goals as goal

pub returns-clause-ok : goal.returns-clause-ok
unfolding add_column
returns-clause-ok c =
    ap (λ columns. frame_of c.self.inside.sizes.items c.self.inside.settled_at.items c.self.inside.stages columns c.self.inside.closed.items c.self.inside.in_stage c.self.inside.bits c.self.inside.pivots)
    c.in_ok-push.ensures.items
    ∙ ap (λ (table : Table). record table { columns = table.columns ++ c.args.column ∷ [] }) c.self.view_is
