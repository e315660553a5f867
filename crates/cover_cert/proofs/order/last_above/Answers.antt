use Rattle.std.proofs.Common.{◌-◌, get_or, length, refl, arith}
use Rattle.define_covers.proofs.Counts.{none_left, turned_here}
use Rattle.cover_cert.proofs.order.last_above.Goals as goal

pub loop-done-init : goal.loop-done-init
loop-done-init c = none_left c.args.classes.now c.args.front.now (length c.args.front.now - 0) (omega arith)

pub returns-then-least-front : goal.returns-then-least-front
returns-then-least-front c =
    let classes = c.args.classes.now in let front = c.args.front.now in let done = c.loop-done.done in let place = length front - 1 - done in (
      omega (arith, c.loop-done-test.true),
      omega (arith, c.if-least-front.true),
      turned_here classes front place (length front - done) c.index-classes-place.result (get_or front place 0) (omega (arith, c.loop-done-test.true, c.requires)) (omega (arith, c.loop-done-test.true)) c.index-classes-place.is refl
          (omega (arith, c.loop-done-test.true)) c.loop-done.invariant (omega (arith, c.least.ensures, c.if-least-front.true)),
    )
