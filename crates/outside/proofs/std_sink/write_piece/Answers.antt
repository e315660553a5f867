use Rattle.std.proofs.Common.{◌≡◌, ◌-◌, ◌≤◌, arith, drop, length, take}
use Rattle.std.proofs.KnownBytes.{Appends-trans}
use Rattle.std.proofs.Math.Seq.{take-add}
use Rattle.std.proofs.lemmas.List.{length-drop, take_all}
use Rattle.outside.proofs.std_sink.write_piece.Goals as goal

pub loop-taken-preserved : goal.loop-taken-preserved
loop-taken-preserved g c =
    let size : length (drop c.loop-taken.taken c.args.piece.now) ≡ length c.args.piece.now - c.loop-taken.taken = length-drop c.loop-taken.taken c.args.piece.now in
    let fits : length (drop c.loop-taken.taken c.args.piece.now) ≤ length c.args.piece.now - c.loop-taken.taken = omega (arith, size) in
    let rest : take (length c.args.piece.now - c.loop-taken.taken) (drop c.loop-taken.taken c.args.piece.now) ≡ drop c.loop-taken.taken c.args.piece.now = take_all _ _ fits in
    let more = Appends-trans _ _ _ _ _ c.loop-taken.invariant.1 c.in-Ok.ensures.bytes in
    let within : c.in-Ok.count ≤ length c.args.piece.now - c.loop-taken.taken = rw (rest, size) at c.in-Ok.ensures.bound in
    (omega (arith, within, c.loop-taken.invariant.0), rw (take-add c.loop-taken.taken c.in-Ok.count c.args.piece.now) (rw rest at more))
