use Rattle.std.proofs.Common.{◌≡◌, ◌+◌, take}
use Rattle.std.specs.Prelude.{sum_by}
use Rattle.pool_model.proofs.lotteries.weights_sum_to.Given as goal

-- the weights read so far and the rest sum to the total
abbrev pub invariant-loop-row : goal.invariant-loop-row
invariant-loop-row l = sum_by (λ row. row.weight) (take l.row-index l.rows) + l.rest ≡ l.total
