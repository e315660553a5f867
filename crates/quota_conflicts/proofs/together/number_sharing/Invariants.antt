use Rattle.std.proofs.Common.{◌≡◌, ◌≤◌, count_by}
use Rattle.std.specs.List.{range_with_len}
use Rattle.define_pools.specs.Pool.{share_household}
use Rattle.quota_conflicts.proofs.together.number_sharing.Given as goal

-- `number` is how many of the first `other` volunteers share the household
abbrev pub invariant-loop-other : goal.invariant-loop-other
invariant-loop-other l = record {
  number : l.number ≡ count_by (share_household l.pool.volunteers l.member) (range_with_len 0 l.other);
  few : l.number ≤ l.other;
}
