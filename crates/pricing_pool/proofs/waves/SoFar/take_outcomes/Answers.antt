use Rattle.std.proofs.Common.{subst, arith, length}
use Rattle.std.proofs.lemmas.Result.{err_from_is_err_and}
use Rattle.panel_search.specs.Answers.{AnswersWeighed}
use Rattle.pricing_pool.specs.Outcomes.{answers_alone, search_at}
use Rattle.pricing_pool.specs.SoFar.{pricing_so_far}
use Rattle.pricing_pool.proofs.Answered.{answers_piece, has_answer}
use Rattle.pricing_pool.proofs.Ended.{piece_stops, piece_taken}
use Rattle.pricing_pool.proofs.waves.SoFar.take_outcomes.Goals as goal

pub outcome_of-requires-clause-all : goal.outcome_of-requires-clause-all
outcome_of-requires-clause-all c =
    let wave = c.args.wave.now in
    has_answer (answers_alone wave) c.args.workers (length wave.fronts) c.args.outcomes.now c.requires.outcomes c.requires.some_worker c.loop-place.place (omega (arith, c.loop-place-test.true, c.count-place-end.ensures.value))

pub returns-in_err-take : goal.returns-in_err-take
returns-in_err-take c =
    let wave = c.args.wave.now in
    let place = c.loop-place.place in
    let answers = answers_piece (answers_alone wave) c.args.workers (length wave.fronts) c.args.outcomes.now c.requires.outcomes c.requires.some_worker place c.outcome_of.result.now c.outcome_of.ensures in
    let out = err_from_is_err_and c.from_residual.result c.from_residual.ensures.1 in
    rw (out.1, out.2)
    (piece_stops wave.priced.classes wave.priced.closed wave.priced.row (pricing_so_far c.args.self.now) wave.fronts c.args.nodes wave.nodes place
    (pricing_so_far c.loop-place.self) (pricing_so_far c.take.new.self) c.outcome_of.result.now.0 c.in_err-take.field-0.0 (pricing_so_far c.take.new.self) c.loop-place.invariant.taken (omega (arith, c.loop-place-test.true, c.count-place-end.ensures.value)) c.requires.budget c.loop-place.invariant.more c.loop-place.invariant.within
    (subst (λ floor. AnswersWeighed (search_at wave.priced wave.fronts floor place) wave.nodes c.outcome_of.result.now.0) c.requires.floor answers) c.in_err-take.ensures)

pub loop-place-preserved : goal.loop-place-preserved
loop-place-preserved c =
    let wave = c.args.wave.now in
    let place = c.loop-place.place in
    let answers = answers_piece (answers_alone wave) c.args.workers (length wave.fronts) c.args.outcomes.now c.requires.outcomes c.requires.some_worker place c.outcome_of.result.now c.outcome_of.ensures in
    let taken = piece_taken wave.priced.classes wave.priced.closed wave.priced.row (pricing_so_far c.args.self.now) wave.fronts c.args.nodes wave.nodes place
    (pricing_so_far c.loop-place.self) (pricing_so_far c.take.new.self) c.outcome_of.result.now.0 c.loop-place.invariant.taken (omega (arith, c.loop-place-test.true, c.count-place-end.ensures.value))
    (subst (λ floor. AnswersWeighed (search_at wave.priced wave.fronts floor place) wave.nodes c.outcome_of.result.now.0) c.requires.floor answers) c.in_ok-take.ensures in
    record { taken = taken.0; within = taken.1; more = taken.2 c.loop-place.invariant.more }
