use Rattle.std.proofs.Common.{subst}
use Rattle.define_searches.specs.Waves.{wave}
use Rattle.pricing_pool.specs.SoFar.{GoesOn, pricing_so_far}
use Rattle.pricing_pool.proofs.pricing.take_wave_of.Goals as goal

pub returns : goal.returns
returns g c =
    let priced = c.args.priced.now in
    let made = subst (λ w. GoesOn (wave w.priced.classes w.priced.closed w.priced.row (pricing_so_far c.args.so_far.now) w.fronts) c.args.nodes c.take_wave.result (pricing_so_far c.take_wave.new.self)) c.new-wave.ensures c.take_wave.ensures in
    subst (λ fronts. GoesOn (wave priced.classes priced.closed priced.row (pricing_so_far c.args.so_far.now) fronts) c.args.nodes c.take_wave.result (pricing_so_far c.take_wave.new.self)) c.part_from-part.ensures.part made
