use Rattle.std.proofs.Common.{◌≡◌, take, count_by}
use Rattle.define_quotas.specs.Quotas.{is_counted}
use Rattle.quota_conflicts.proofs.quotas.number_counted.Given as goal

-- `number` is how many of the members read so far are counted
abbrev pub invariant-loop-i : goal.invariant-loop-i
invariant-loop-i l = l.number ≡ count_by (is_counted l.pool l.counted) (take l.i-index l.members)
