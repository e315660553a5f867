use Rattle.std.proofs.Common.{◌≡◌, ◌-◌, drop, length, None}
use Rattle.define_covers.specs.FrontOrder.{turned}
use Rattle.cover_cert.proofs.order.last_above.Given as goal

-- none of the last `done` counts is above its least
abbrev pub invariant-loop-done : goal.invariant-loop-done
invariant-loop-done l = turned (drop (length l.front - l.done) l.classes) (drop (length l.front - l.done) l.front) ≡ None
