use Rattle.std.proofs.Common.{◌≡◌, take}
use Rattle.define_quotas.specs.LeastMisses.{weighed_bounds}
use Rattle.quota_conflicts.proofs.misses.weighed_bounds.Given as goal

-- `sum` is the sum of the bounds of the quotas read so far, each times its weight
abbrev pub invariant-loop-it : goal.invariant-loop-it
invariant-loop-it l = l.sum ≡ weighed_bounds l.pool l.side (take l.it-index l.weighted)
