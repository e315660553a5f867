use Rattle.std.proofs.Common.{◌≡◌, take}
use Rattle.define_quotas.specs.LeastMisses.{weights_for}
use Rattle.quota_conflicts.proofs.misses.weights_for.Given as goal

-- `sum` is the sum of the weights of the quotas read so far that are of the side and count volunteer `i`
abbrev pub invariant-loop-it : goal.invariant-loop-it
invariant-loop-it l = l.sum ≡ weights_for l.pool l.side (take l.it-index l.weighted) l.i
