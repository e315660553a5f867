use Rattle.std.proofs.Common.{◌≡◌, ℕ, ◌<◌, ◌+ℤ◌, pos, length, get_or, take, cond}
use Rattle.define_pools.specs.Lists.{includes}
use Rattle.pool_model.proofs.counting.add_weight.Given as goal

-- the weight was added for each of the members read so far
abbrev pub invariant-loop-i : goal.invariant-loop-i
invariant-loop-i l = (k : ℕ) → k < length l.chances →
    get_or l.chances k (pos 0) ≡ cond (includes (take l.i-index l.members) k) (get_or l.initial.chances k (pos 0) +ℤ l.weight) (get_or l.initial.chances k (pos 0))
