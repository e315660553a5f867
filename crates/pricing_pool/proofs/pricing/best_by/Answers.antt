use Rattle.std.proofs.Common.{ap, subst}
use Rattle.panel_search.specs.Answers.{AnswersBest}
use Rattle.define_searches.specs.Waves.{best_in_waves}
use Rattle.pricing_pool.proofs.pricing.best_by.Goals as goal

pub returns-clause-answers : goal.returns-clause-answers
returns-clause-answers g c =
    subst (λ closed. AnswersBest (best_in_waves c.args.classes.now closed c.args.row.now) c.args.nodes c.price_by.result) (ap (λ p. p.closed) c.in_ok-pricer.ensures)
    (subst (λ all. AnswersBest (best_in_waves all c.in_ok-pricer.pricer.closed c.args.row.now) c.args.nodes c.price_by.result) (ap (λ p. p.classes) c.in_ok-pricer.ensures) c.price_by.ensures.answers)
