use Rattle.std.proofs.Common.{◌≡◌, ℕ, ◌<◌, false}
use Rattle.define_draws.specs.Dice.{group_at, group_size, is_accepted}
use Rattle.tickets.proofs.dice.first_named.Given as goal

-- no group read so far is accepted
abbrev pub invariant-loop-place : goal.invariant-loop-place
invariant-loop-place l = (place : ℕ) → place < l.place → is_accepted l.total (group_at (group_size l.total) l.digits place) ≡ false
