use Rattle.std.proofs.Common.{◌≢◌, ◌<◌, ℕ, slice_index_or}
use Rattle.define_quotas.specs.declared.Quota.{Quota}
use Rattle.quota_conflicts.proofs.checks.are_different.Given as goal

-- no quota before this place is there twice
abbrev pub invariant-loop-place : goal.invariant-loop-place
invariant-loop-place l = (i j : ℕ) (d : Quota) → i < j → j < l.place → slice_index_or l.quotas i d ≢ slice_index_or l.quotas j d
