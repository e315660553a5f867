use Rattle.std.proofs.Common.{◌≡◌, take, sum_by}
use Rattle.std.specs.List.{enumerate_from}
use Rattle.define_quotas.specs.declared.Side.TheVariants.{AtMost}
use Rattle.define_quotas.specs.LeastMisses.{taken_by_standing, weights_for}
use Rattle.quota_conflicts.proofs.misses.asked.Given as goal

-- `taken` is the sum of what the volunteers read so far take (`taken_by_standing`)
abbrev pub invariant-loop-i : goal.invariant-loop-i
invariant-loop-i l = l.taken ≡ sum_by (λ (i, standing). taken_by_standing standing (weights_for l.pool AtMost l.weighted i)) (take l.i (enumerate_from 0 l.standings))
