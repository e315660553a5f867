-- The total of a lottery that satisfies `TotalAgrees` is the sum of the lottery's list of weights.
use Rattle.std.proofs.Common.{◌≡◌, ◌∙◌, sym}
use Rattle.std.specs.Prelude.{sum}
use Rattle.std.proofs.lemmas.List.Sums.{sum-map}
use Rattle.define_draws.specs.Tickets.{weights_of}
use Rattle.define_pools.specs.Lottery.{Lottery, LotteryRow, TotalAgrees}

pub total_is : (lottery : Lottery) → TotalAgrees lottery → lottery.total ≡ sum (weights_of lottery)
total_is lottery agrees = agrees.total ∙ sym (sum-map (λ (row : LotteryRow). row.weight) lottery.rows)
