use Rattle.std.proofs.Common.{◌<◌, ◌++◌, length, take, arith, length-append}
use Rattle.std.proofs.KnownBytes.{Consumes-trans}
use Rattle.outside.proofs.reading.read_all.Goals as goal

pub returns-then-count-limit-clause-front : goal.returns-then-count-limit-clause-front
returns-then-count-limit-clause-front g c =
    (c.loop-turn.bytes.items ++ take c.in-Ok.count c.read.new.room, Consumes-trans _ _ _ _ _ c.loop-turn.invariant.taken c.in-Ok.ensures.given.0)

pub returns-then-is_err-clause-front : goal.returns-then-is_err-clause-front
returns-then-is_err-clause-front g c =
    (c.loop-turn.bytes.items ++ take c.in-Ok.count c.read.new.room, Consumes-trans _ _ _ _ _ c.loop-turn.invariant.taken c.in-Ok.ensures.given.0)

pub returns-then-count-limit-clause-long : goal.returns-then-count-limit-clause-long
returns-then-count-limit-clause-long g c _ =
    let taken = take c.in-Ok.count c.read.new.room in
    let fits = c.in-Ok.ensures.fits in
    let more : c.args.limit < length (c.loop-turn.bytes.items ++ taken) = omega (arith, length-append c.loop-turn.bytes.items taken, c.loop-turn.bytes.ok) in
    (c.loop-turn.bytes.items ++ taken, more, Consumes-trans _ _ _ _ _ c.loop-turn.invariant.taken c.in-Ok.ensures.given.0)
