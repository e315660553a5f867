use Rattle.std.proofs.Common.{take}
use Rattle.std.specs.Prelude.{sum_by}
use Rattle.define_legs.specs.Legs.{leg_bases}
use Rattle.office_reports.proofs.legs.legs_text.Goals as goal

pub sum-total-requires-clause-first : goal.sum-total-requires-clause-first
sum-total-requires-clause-first c = (sum_by (leg_bases c.args.classes) (take c.loop-leg.leg-index c.args.legs.now), c.loop-leg.invariant.total)
