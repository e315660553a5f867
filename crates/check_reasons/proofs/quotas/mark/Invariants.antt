use Rattle.std.proofs.Common.{◌≡◌, ℕ, ◌<◌, ◌||◌, false, length, get_or, take}
use Rattle.define_pools.specs.Lists.{includes}
use Rattle.check_reasons.proofs.quotas.mark.Given as goal

-- exactly the members read so far are marked, besides the numbers that were marked at first
abbrev pub invariant-loop-i : goal.invariant-loop-i
invariant-loop-i l = (k : ℕ) → k < length l.marks → get_or l.marks k false ≡ (get_or l.initial.marks k false || includes (take l.i-index l.members) k)
