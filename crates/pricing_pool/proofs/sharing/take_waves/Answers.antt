use Rattle.std.proofs.Common.{arith, length}
use Rattle.std.proofs.lemmas.Result.{err_from_is_err_and}
use Rattle.pricing_pool.specs.SoFar.{pricing_so_far}
use Rattle.pricing_pool.proofs.SharedWaves.{bounded_after, not_begun, short_fronts, wave_ends, wave_taken}
use Rattle.pricing_pool.proofs.Waving.{up_to}
use Rattle.pricing_pool.proofs.Whole.{ceiling}
use Rattle.pricing_pool.proofs.sharing.take_waves.Goals as goal

pub loop-number-init : goal.loop-number-init
loop-number-init g c = record { shares = not_begun c.args.priced.now (pricing_so_far c.args.shared.now.so_far) c.args.shared.now.word c.requires.bounded; within = c.requires.within }

pub take_wave_of-requires-clause-bounded : goal.take_wave_of-requires-clause-bounded
take_wave_of-requires-clause-bounded g c κs within =
    let p = c.args.priced.now in
    bounded_after p (λ now. up_to p.classes p.closed p.row c.args.fronts.now now c.loop-number.number) (pricing_so_far c.args.shared.now.so_far) (pricing_so_far c.loop-number.shared.so_far) c.args.shared.now.word c.loop-number.shared.word c.requires.bounded
    c.loop-number.invariant.shares

pub returns-in_err-take_wave_of : goal.returns-in_err-take_wave_of
returns-in_err-take_wave_of g c =
    let p = c.args.priced.now in
    let out = err_from_is_err_and c.from_residual.result c.from_residual.ensures.1 in
    rw (out.1, out.2)
    (wave_ends p.classes p.closed p.row c.facts.ensures.searchable c.facts.ensures.entries c.args.fronts.now (short_fronts p.classes p.closed p.row c.facts.ensures.searchable c.facts.ensures.entries c.args.fronts.now c.requires.fronts)
    (pricing_so_far c.args.shared.now.so_far) (pricing_so_far c.loop-number.shared.so_far) c.args.shared.now.word c.loop-number.shared.word c.loop-number.number c.loop-number.invariant.shares c.in_err-take_wave_of.field-0.0 c.args.nodes
    (pricing_so_far c.take_wave_of.new.shared.so_far) (pricing_so_far c.take_wave_of.new.shared.so_far) c.take_wave_of.new.shared.word c.take_wave_of.new.shared.word (omega (arith, c.loop-number-test.true, c.div_ceil-number-end.ensures, ceiling (length c.args.fronts.now)))
    c.in_err-take_wave_of.ensures)

pub loop-number-preserved : goal.loop-number-preserved
loop-number-preserved g c =
    let p = c.args.priced.now in
    let made = c.in_ok-take_wave_of.ensures in
    record {
      shares = wave_taken p.classes p.closed p.row c.facts.ensures.searchable c.facts.ensures.entries c.args.fronts.now (short_fronts p.classes p.closed p.row c.facts.ensures.searchable c.facts.ensures.entries c.args.fronts.now c.requires.fronts)
          (pricing_so_far c.args.shared.now.so_far) (pricing_so_far c.loop-number.shared.so_far) c.args.shared.now.word c.loop-number.shared.word c.loop-number.number c.loop-number.invariant.shares (pricing_so_far c.take_wave_of.new.shared.so_far)
          c.take_wave_of.new.shared.word made.0;
      within = made.1;
    }
