use Rattle.std.proofs.Common.{◌≡◌, ◌<◌, length, ◌∙◌, arith}
use Rattle.std.specs.Prelude.{sum}
use Rattle.std.proofs.lemmas.List.{length-map}
use Rattle.std.proofs.lemmas.List.Sums.{sum-map}
use Rattle.define_draws.specs.Tickets.{weights_of}
use Rattle.define_pools.specs.Lottery.{Lottery, LotteryRow, TotalAgrees}
use Rattle.define_draws.proofs.Tickets.{near_share, sum-tickets}
use Rattle.define_draws.proofs.Totals.{total_is}
use Rattle.define_draws.proofs.short.tickets_sum.Goals as goal

pub returns-clause-all : goal.returns-clause-all
returns-clause-all c lottery tickets agrees some = sum-tickets lottery.total tickets (weights_of lottery) (total_is lottery agrees) some

pub returns-clause-near : goal.returns-clause-near
returns-clause-near c lottery tickets place agrees some inside =
    near_share lottery.total tickets (weights_of lottery) (total_is lottery agrees) some place (omega (arith, length-map lottery.rows (λ (row : LotteryRow). row.weight)))
