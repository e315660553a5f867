use Rattle.std.proofs.Common.{◌<◌, ◌^◌, pos, sym, ap, ◌∙◌, arith}
use Rattle.std.specs.Int.{w128}
use Rattle.std.proofs.lemmas.Int.{to_z_pos}
use Rattle.exact_table.proofs.ChoiceLaws.{bases-chosen, no-bases}
use Rattle.exact_table.proofs.bases.basis_bound.Goals as goal

pub returns-then-others-eq0 : goal.returns-then-others-eq0
returns-then-others-eq0 c = let none = no-bases c.args.m c.args.s c.args.q c.if-others-eq0.true in (omega (arith, none), ap pos (sym none))

pub returns-in_err-bases : goal.returns-in_err-bases
returns-in_err-bases c =
    let same = bases-chosen c.args.m c.args.s c.args.q (omega (arith, c.if-others-eq0.false)) c.max.result c.min.result c.max.ensures c.min.ensures in
    rw c.from_residual.ensures (λ l. c.in_err-bases.ensures (omega (arith, same, l)))

pub returns : goal.returns
returns c =
    let same = bases-chosen c.args.m c.args.s c.args.q (omega (arith, c.if-others-eq0.false)) c.max.result c.min.result c.max.ensures c.min.ensures in
    let small : c.in_ok-bases.bases < 2 ^ 127 = omega (arith, c.in_ok-bases.ensures.0, c.in_ok-bases.ensures.1) in
    (omega (arith, same, c.in_ok-bases.ensures.0), to_z_pos w128 c.in_ok-bases.bases small ∙ ap pos (c.in_ok-bases.ensures.1 ∙ same))
