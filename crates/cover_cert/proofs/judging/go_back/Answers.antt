use Rattle.std.proofs.Common.{◌-◌, length, arith}
use Rattle.cover_cert.proofs.Walks.{at_child}
use Rattle.cover_cert.proofs.judging.go_back.Goals as goal

pub give_back-requires-clause-stands : goal.give_back-requires-clause-stands
give_back-requires-clause-stands c =
    let front = c.args.front.now in let done = c.loop-done.done in
    at_child c.args.classes.now front (length front - 1 - done) (omega (arith, c.loop-done-test.true)) _ (length front - done) (omega (arith, c.loop-done-test.true)) c.loop-done.invariant
