use Rattle.std.proofs.Common.{◌≡◌, ℕ, ◌+◌, ◌≤◌, ◌<◌, false}
use Rattle.define_covers.specs.Causes.{applies}
use Rattle.define_covers.specs.Covers.{ByClosed}
use Rattle.cover_cert.proofs.causes.first_closed.Given as goal

-- no number up to `place` applies
abbrev pub invariant-loop-place : goal.invariant-loop-place
invariant-loop-place l = (number : ℕ) → 1 ≤ number → number < 1 + l.place → applies l.terms.classes l.terms.closed.items l.terms.row l.front (ByClosed number) ≡ false
