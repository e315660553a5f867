use Rattle.std.proofs.Common.{◌∙◌, ap, sym, arith, length}
use Rattle.std.proofs.lemmas.Result.{err_from_is_err_and}
use Rattle.define_searches.specs.Waves.{wave}
use Rattle.pricing_pool.specs.SoFar.{pricing_so_far}
use Rattle.pricing_pool.proofs.Waving.{one_more, part}
use Rattle.pricing_pool.proofs.Whole.{ceiling, wave_stops}
use Rattle.pricing_pool.proofs.pricing.take_waves.Goals as goal

pub returns-in_err-take_wave_of : goal.returns-in_err-take_wave_of
returns-in_err-take_wave_of g c =
    let priced = c.args.priced.now in
    let out = err_from_is_err_and c.from_residual.result c.from_residual.ensures.1 in
    rw (out.1, out.2)
    (wave_stops priced.classes priced.closed priced.row c.args.fronts.now (pricing_so_far c.args.so_far.now) (pricing_so_far c.loop-number.so_far) c.args.nodes c.loop-number.number c.in_err-take_wave_of.field-0.0 _ (pricing_so_far c.take_wave_of.new.so_far)
    c.loop-number.invariant.taken (omega (arith, c.loop-number-test.true, c.div_ceil-number-end.ensures, ceiling (length c.args.fronts.now))) c.in_err-take_wave_of.ensures)

pub loop-number-preserved : goal.loop-number-preserved
loop-number-preserved g c =
    let priced = c.args.priced.now in
    let made = c.in_ok-take_wave_of.ensures in
    record {
      taken = made.0 ∙ ap (λ now. wave priced.classes priced.closed priced.row now (part priced.classes priced.closed priced.row c.args.fronts.now c.loop-number.number)) c.loop-number.invariant.taken
          ∙ sym (one_more priced.classes priced.closed priced.row c.args.fronts.now (pricing_so_far c.args.so_far.now) c.loop-number.number);
      within = omega (arith, ap (λ now. now.visits) made.0, made.1);
    }
