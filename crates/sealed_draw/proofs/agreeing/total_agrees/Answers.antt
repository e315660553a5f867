use Rattle.std.proofs.Common.{◌≡◌, ◌∙◌, ap}
use Rattle.define_pools.specs.Certificate.{Answer}
use Rattle.sealed_draw.proofs.Totals.{agrees_exactly}
use Rattle.sealed_draw.proofs.agreeing.total_agrees.Goals as goal

pub returns : goal.returns
returns c =
    let same : c.lottery.result.now ≡ c.args.bundle.now.answer.lottery = c.lottery.ensures ∙ ap (λ (a : Answer). a.lottery) c.answer.ensures.value in
    agrees_exactly c.args.bundle.now.pool c.args.bundle.now.answer c.weights_sum_to_total.result c.answer.ensures.in_ranges (rw same at c.weights_sum_to_total.ensures)
