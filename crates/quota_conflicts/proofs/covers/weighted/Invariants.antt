use Rattle.std.proofs.Common.{◌≡◌, take}
use Rattle.define_quotas.specs.LeastMisses.{quotas_of}
use Rattle.quota_conflicts.proofs.covers.weighted.Given as goal

-- `weighted` has the quotas read so far
abbrev pub invariant-loop-k : goal.invariant-loop-k
invariant-loop-k l = quotas_of l.weighted.items ≡ take l.k l.quotas
