use Rattle.std.proofs.Common.{sym, subst, arith}
use Rattle.alike.specs.Steps.{IsTotalOf}
use Rattle.alike.proofs.spreading.all_rows.Goals as goal

pub push_rows-requires : goal.push_rows-requires
push_rows-requires c =
    let part = c.loop-composition-item.result in
    subst (λ counts. IsTotalOf c.args.classes.now c.args.total (counts, part.1)) (sym c.counts.ensures)
    (subst (IsTotalOf c.args.classes.now c.args.total) (sym c.loop-composition-item.is) (c.requires c.loop-composition.composition-index part (omega arith)))
