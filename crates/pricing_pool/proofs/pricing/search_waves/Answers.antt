use Rattle.std.proofs.Common.{rules, FitsSigned, of_z, to_z, ◌∙◌, ap, arith}
use Rattle.std.specs.Int.{w128}
use Rattle.std.proofs.lemmas.Int.{to_z-of_z}
use Rattle.std.proofs.lemmas.Result.{err_from_is_err_and}
use Rattle.pricing_pool.specs.SoFar.{pricing_so_far}
use Rattle.pricing_pool.proofs.Whole.{pieces_stop, waves_answer, waves_price, waves_stop}
use Rattle.pricing_pool.proofs.pricing.search_waves.Goals as goal

pub returns-in_err-fronts-clause-answers : goal.returns-in_err-fronts-clause-answers
returns-in_err-fronts-clause-answers g c =
    let priced = c.args.priced.now in
    let out = err_from_is_err_and c.from_residual.result c.from_residual.ensures.1 in
    rw (out.1, out.2) (pieces_stop priced.classes priced.closed priced.row c.args.nodes c.in_err-fronts.field-0.0 c.in_err-fronts.ensures.answers)

pub returns-in_err-take_waves-clause-answers : goal.returns-in_err-take_waves-clause-answers
returns-in_err-take_waves-clause-answers g c =
    let priced = c.args.priced.now in
    let found = c.in_ok-fronts.ensures.answers in
    let fits : FitsSigned w128 c.side.result = search rules in
    let out = err_from_is_err_and c.from_residual-in_err-take_waves.result c.from_residual-in_err-take_waves.ensures.1 in
    rw (out.1, out.2)
    (waves_stop priced.classes priced.closed priced.row c.args.nodes c.in_ok-fronts.visits c.deref.result.now (to_z w128 (of_z w128 c.side.result)) found.2 (c.deref.ensures.value ∙ found.1)
    (to_z-of_z w128 c.side.result fits ∙ c.side.ensures ∙ ap (λ row. row.b) c.row.ensures) c.in_err-take_waves.field-0.0 (pricing_so_far c.take_waves.new.so_far) c.in_err-take_waves.ensures)

pub returns-clause-answers : goal.returns-clause-answers
returns-clause-answers g c =
    let priced = c.args.priced.now in
    let found = c.in_ok-fronts.ensures.answers in
    let fits : FitsSigned w128 c.side.result = search rules in
    waves_answer priced.classes priced.closed priced.row c.args.nodes c.in_ok-fronts.visits c.deref.result.now (to_z w128 (of_z w128 c.side.result)) found.2 (c.deref.ensures.value ∙ found.1) (to_z-of_z w128 c.side.result fits ∙ c.side.ensures ∙ ap (λ row. row.b) c.row.ensures) (pricing_so_far c.take_waves.new.so_far)
    c.in_ok-take_waves.ensures.0 (omega (arith, ap (λ now. now.visits) c.in_ok-take_waves.ensures.0, c.in_ok-take_waves.ensures.1))

pub returns-clause-best : goal.returns-clause-best
returns-clause-best g c =
    let priced = c.args.priced.now in
    let found = c.in_ok-fronts.ensures.answers in
    let fits : FitsSigned w128 c.side.result = search rules in
    waves_price priced.classes priced.closed priced.row c.args.nodes c.in_ok-fronts.visits c.deref.result.now (to_z w128 (of_z w128 c.side.result)) found.2 (c.deref.ensures.value ∙ found.1) (to_z-of_z w128 c.side.result fits ∙ c.side.ensures ∙ ap (λ row. row.b) c.row.ensures)
    c.facts.ensures.searchable c.facts.ensures.entries (pricing_so_far c.take_waves.new.so_far) c.in_ok-take_waves.ensures.0
