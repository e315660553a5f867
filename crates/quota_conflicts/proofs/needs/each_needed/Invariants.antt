use Rattle.std.proofs.Common.{ℕ, ◌<◌}
use Rattle.define_quotas.specs.Quotas.{IsNeeded}
use Rattle.quota_conflicts.proofs.needs.each_needed.Given as goal

-- each quota before `place` is needed
abbrev pub invariant-loop-place : goal.invariant-loop-place
invariant-loop-place l = (k : ℕ) → k < l.place → IsNeeded l.pool l.quotas k
