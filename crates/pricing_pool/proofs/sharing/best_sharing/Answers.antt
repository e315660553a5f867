use Rattle.std.proofs.Common.{ap, subst}
use Rattle.define_searches.specs.Compositions.{price}
use Rattle.define_searches.specs.Waves.{best_in_waves}
use Rattle.pricing_pool.specs.Sharing.{AnswersSharing}
use Rattle.pricing_pool.proofs.sharing.best_sharing.Goals as goal

pub returns : goal.returns
returns g c =
    let row = c.args.row.now in
    subst (λ closed. AnswersSharing (price c.args.classes.now closed row) (best_in_waves c.args.classes.now closed row).visits c.args.nodes c.price_sharing.result) (ap (λ p. p.closed) c.in_ok-pricer.ensures)
    (subst (λ all. AnswersSharing (price all c.in_ok-pricer.pricer.closed row) (best_in_waves all c.in_ok-pricer.pricer.closed row).visits c.args.nodes c.price_sharing.result) (ap (λ p. p.classes) c.in_ok-pricer.ensures) c.price_sharing.ensures)
