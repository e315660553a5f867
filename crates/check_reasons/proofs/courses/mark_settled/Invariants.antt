use Rattle.std.proofs.Common.{◌≡◌, ℕ, ◌<◌, ◌&&◌, ◌||◌, ltb, false, length, get_or}
use Rattle.define_pools.specs.Certificate.{is_positive}
use Rattle.check_reasons.proofs.courses.mark_settled.Given as goal

-- exactly the volunteers below `i` with a weight above 0 in the stage are marked, besides those who were marked at first
abbrev pub invariant-loop-i : goal.invariant-loop-i
invariant-loop-i l = (k : ℕ) → k < length l.settled → get_or l.settled k false ≡ ((ltb k l.i && is_positive l.stage k) || get_or l.initial.settled k false)
