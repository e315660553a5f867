use Rattle.std.proofs.Common.{◌≡◌, take, sum_by}
use Rattle.std.specs.List.{enumerate_from}
use Rattle.define_quotas.specs.declared.Side.TheVariants.{AtLeast, AtMost}
use Rattle.define_quotas.specs.LeastMisses.{given_by, weights_for}
use Rattle.quota_conflicts.proofs.misses.given.Given as goal

-- `all` is the sum of what the volunteers read so far give (`given_by`)
abbrev pub invariant-loop-i : goal.invariant-loop-i
invariant-loop-i l =
    l.all ≡ sum_by (λ (i, standing). given_by standing (weights_for l.pool AtLeast l.weighted i) (weights_for l.pool AtMost l.weighted i)) (take l.i (enumerate_from 0 l.standings))
