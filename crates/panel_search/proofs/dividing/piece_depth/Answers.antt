use Rattle.std.proofs.Common.{length, ap, arith}
use Rattle.panel_search.proofs.Division.{depth_is}
use Rattle.panel_search.proofs.dividing.piece_depth.Goals as goal

pub returns-then-lists-ge64 : goal.returns-then-lists-ge64
returns-then-lists-ge64 c =
    let all = c.args.classes.now in
    depth_is all c.loop-depth.depth (omega (arith, c.loop-depth-test.true, ap length c.classes-class-items.ensures)) c.loop-depth.invariant.2 (λ l. omega (arith, c.loop-depth.invariant.0, c.if-lists-ge64.true))

pub returns : goal.returns
returns c =
    let all = c.args.classes.now in
    let size = ap length c.classes.ensures in
    let done = ap length c.classes-class-items.ensures in
    depth_is all (length c.classes.result.now) (omega (arith, size)) (λ k l. c.loop-depth.invariant.2 k (omega (arith, l, c.loop-depth-test.false, size, done))) (λ l. absurd (omega (arith, l, size)))
