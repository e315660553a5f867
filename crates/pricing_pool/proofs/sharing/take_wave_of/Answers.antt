use Rattle.std.proofs.Common.{subst}
use Rattle.define_searches.specs.Waves.{wave}
use Rattle.pricing_pool.specs.Sharing.{SharesOn}
use Rattle.pricing_pool.specs.SoFar.{pricing_so_far}
use Rattle.pricing_pool.proofs.sharing.take_wave_of.Goals as goal

pub returns : goal.returns
returns g c =
    let p = c.args.priced.now in
    let before = c.args.shared.now in
    let after = c.take_wave.new.self in
    let made = subst (λ w. SharesOn w.priced (λ now. wave w.priced.classes w.priced.closed w.priced.row now w.fronts) c.args.nodes (pricing_so_far before.so_far) before.word c.take_wave.result (pricing_so_far after.so_far) after.word) c.new-wave.ensures c.take_wave.ensures in
    subst (λ fronts. SharesOn p (λ now. wave p.classes p.closed p.row now fronts) c.args.nodes (pricing_so_far before.so_far) before.word c.take_wave.result (pricing_so_far after.so_far) after.word) c.part_from-part.ensures.part made
