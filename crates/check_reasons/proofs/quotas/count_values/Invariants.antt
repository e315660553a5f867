use Rattle.std.proofs.Common.{◌≡◌, ℕ, ◌<◌, length, get_or, take}
use Rattle.define_pools.specs.Pool.{members_with}
use Rattle.check_reasons.proofs.quotas.count_values.Given as goal

-- `numbers` has for each value how many of the members read so far have it
abbrev pub invariant-loop-i : goal.invariant-loop-i
invariant-loop-i l = (v : ℕ) → v < length l.numbers → get_or l.numbers v 0 ≡ members_with l.volunteers (take l.i-index l.members) l.category v
