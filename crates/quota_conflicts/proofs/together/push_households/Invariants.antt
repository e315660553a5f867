use Rattle.std.proofs.Common.{◌≡◌, ◌++◌, map, filter}
use Rattle.std.specs.List.{range_with_len}
use Rattle.define_quotas.specs.AllQuotas.{household_quota, is_first_of_shared}
use Rattle.quota_conflicts.proofs.together.push_households.Given as goal

-- the list has the quotas of the shared households whose first members are among the volunteers read so far
abbrev pub invariant-loop-member : goal.invariant-loop-member
invariant-loop-member l = l.quotas.items ≡ l.fn.quotas.items ++ map household_quota (filter (is_first_of_shared l.pool) (range_with_len 0 l.member))
