use Rattle.std.proofs.Common.{◌+◌, ◌<◌, length, take, sym, subst, arith}
use Rattle.std.proofs.lemmas.Int.{ints}
use Rattle.std.proofs.lemmas.List.{take_all}
use Rattle.std.proofs.lemmas.Result.{err_from_is_err_and}
use Rattle.define_searches.specs.Waves.{wave}
use Rattle.panel_search.specs.Sharing.{Shares}
use Rattle.pricing_pool.specs.Sharing.{answers_shared}
use Rattle.pricing_pool.specs.SoFar.{pricing_so_far}
use Rattle.pricing_pool.proofs.Answered.{answers_piece, has_answer}
use Rattle.pricing_pool.proofs.SharedWaves.{not_begun, told_stops, told_taken}
use Rattle.pricing_pool.proofs.shared_waves.SharedSoFar.take_outcomes.Goals as goal

pub outcome_of-requires-clause-all : goal.outcome_of-requires-clause-all
outcome_of-requires-clause-all c =
    let w = c.args.wave.now in
    has_answer (answers_shared w) c.args.workers (length w.fronts) c.args.outcomes.now c.requires.outcomes c.requires.some_worker c.loop-place.place (omega (arith, c.loop-place-test.true, c.count-place-end.ensures.value))

pub loop-place-init : goal.loop-place-init
loop-place-init c = record { shares = not_begun c.args.wave.now.priced (pricing_so_far c.args.self.now.so_far) c.args.self.now.word c.requires.bounded; higher = omega (arith, ints); within = c.requires.within }

pub returns-in_err-take : goal.returns-in_err-take
returns-in_err-take c =
    let w = c.args.wave.now in let place = c.loop-place.place in
    let told = c.outcome_of.result.now in
    let there : place < length w.fronts = omega (arith, c.loop-place-test.true, c.count-place-end.ensures.value) in
    let answers = answers_piece (answers_shared w) c.args.workers (length w.fronts) c.args.outcomes.now c.requires.outcomes c.requires.some_worker place told c.outcome_of.ensures in
    let out = err_from_is_err_and c.from_residual.result c.from_residual.ensures.1 in
    rw (out.1, out.2)
    (told_stops w.priced.classes w.priced.closed w.priced.row c.requires.searchable c.requires.entries (pricing_so_far c.args.self.now.so_far) (pricing_so_far c.loop-place.self.so_far) w.fronts place c.args.self.now.word c.loop-place.self.word c.args.nodes w.nodes told
    there c.facts.ensures c.loop-place.invariant.shares c.loop-place.invariant.higher
    (subst (λ floor. answers_shared (record { priced = w.priced; fronts = w.fronts; floor = floor; nodes = w.nodes }) place told) c.requires.floor answers)
    (pricing_so_far c.raise.new.self.so_far) c.raise.ensures.visits c.raise.ensures.floor c.raise.ensures.kept c.in_err-take.field-0.0 (pricing_so_far c.take.new.self) (pricing_so_far c.take.new.self) c.raise.new.self.word c.requires.budget c.requires.within c.in_err-take.ensures)

pub loop-place-preserved : goal.loop-place-preserved
loop-place-preserved c =
    let w = c.args.wave.now in let place = c.loop-place.place in
    let told = c.outcome_of.result.now in
    let there : place < length w.fronts = omega (arith, c.loop-place-test.true, c.count-place-end.ensures.value) in
    let answers = answers_piece (answers_shared w) c.args.workers (length w.fronts) c.args.outcomes.now c.requires.outcomes c.requires.some_worker place told c.outcome_of.ensures in
    let made = told_taken w.priced.classes w.priced.closed w.priced.row c.requires.searchable c.requires.entries (pricing_so_far c.args.self.now.so_far) (pricing_so_far c.loop-place.self.so_far) w.fronts place c.args.self.now.word c.loop-place.self.word
    c.args.nodes w.nodes told there c.facts.ensures c.loop-place.invariant.shares c.loop-place.invariant.higher
    (subst (λ floor. answers_shared (record { priced = w.priced; fronts = w.fronts; floor = floor; nodes = w.nodes }) place told) c.requires.floor answers)
    (pricing_so_far c.raise.new.self.so_far) c.raise.ensures.visits c.raise.ensures.floor c.raise.ensures.kept (pricing_so_far c.take.new.self) c.in_ok-take.ensures in
    record {
      shares = subst (λ n. Shares w.priced (λ now. wave w.priced.classes w.priced.closed w.priced.row now (take (place + 1) w.fronts)) (pricing_so_far c.args.self.now.so_far) c.args.self.now.word (pricing_so_far c.take.new.self) n) (sym c.raise.ensures.word) made.0;
      higher = made.1;
      within = made.2;
    }

pub returns : goal.returns
returns c =
    let w = c.args.wave.now in (
      subst (λ fronts. Shares w.priced (λ now. wave w.priced.classes w.priced.closed w.priced.row now fronts) (pricing_so_far c.args.self.now.so_far) c.args.self.now.word (pricing_so_far c.loop-place.self.so_far) c.loop-place.self.word)
          (take_all c.loop-place.place w.fronts (omega (arith, c.loop-place-test.false, c.count-place-end.ensures.value))) c.loop-place.invariant.shares,
      c.loop-place.invariant.within,
    )
