use Rattle.std.proofs.Common.{◌≡◌, ℕ, ◌<◌, pos, length, get_or, take}
use Rattle.define_pools.proofs.Weights.{counted}
use Rattle.pool_model.proofs.counting.chances.Given as goal

-- there is a count for each volunteer: the sum of the weights of the rows read so far whose panels have the volunteer
abbrev pub invariant-loop-row : goal.invariant-loop-row
invariant-loop-row l = record {
  each : (k : ℕ) → k < length l.chances.items → get_or l.chances.items k (pos 0) ≡ pos (counted (take l.row-index l.lottery.rows) k);
  size : length l.chances.items ≡ length l.pool.volunteers;
}
