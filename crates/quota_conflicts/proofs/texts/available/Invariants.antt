use Rattle.std.proofs.Common.{◌≡◌, ◌≤◌, ◌&&◌, count_by}
use Rattle.std.specs.List.{range_with_len}
use Rattle.define_pools.specs.Pool.{volunteer}
use Rattle.define_quotas.specs.ConflictText.{is_available}
use Rattle.define_quotas.specs.Quotas.{is_counted}
use Rattle.quota_conflicts.proofs.texts.available.Given as goal

-- `number` is how many of the first `i` volunteers are counted and aren't gone
abbrev pub invariant-loop-i : goal.invariant-loop-i
invariant-loop-i l = record {
  number : l.number ≡ count_by (λ i. is_counted l.pool l.counted i && is_available (volunteer l.pool.volunteers i).standing) (range_with_len 0 l.i);
  few : l.number ≤ l.i;
}
