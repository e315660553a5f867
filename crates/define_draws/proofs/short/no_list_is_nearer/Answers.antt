use Rattle.std.proofs.Common.{◌≡◌, length, ◌∙◌, sym}
use Rattle.std.proofs.lemmas.List.{length-map}
use Rattle.define_draws.specs.Tickets.{weights_of}
use Rattle.define_pools.specs.Lottery.{LotteryRow}
use Rattle.define_draws.proofs.Nearest.{nearest}
use Rattle.define_draws.proofs.Totals.{total_is}
use Rattle.define_draws.proofs.short.no_list_is_nearer.Goals as goal

pub returns : goal.returns
returns c lottery tickets counts agrees some size same =
    nearest lottery.total tickets (weights_of lottery) (total_is lottery agrees) some counts (size ∙ sym (length-map lottery.rows (λ (row : LotteryRow). row.weight))) same
