use Rattle.std.proofs.Common.{get_or, map, min, pos, unsigned_abs, FitsSigned, to_z, rules}
use Rattle.std.specs.Int.{int_min, w128}
use Rattle.office_reports.proofs.Chances.{min_of_naturals, next_stored}
use Rattle.office_reports.proofs.summaries.least.Goals as goal

pub loop-count-preserved : goal.loop-count-preserved
loop-count-preserved c =
    let counts = c.args.counts.now in
    let i = c.loop-count.count-index in
    let fits : FitsSigned w128 (get_or counts i (pos 0)) = search rules in
    let fits_next : FitsSigned w128 c.min-least.result = search rules in
    next_stored min int_min min_of_naturals counts i (get_or (map unsigned_abs counts) 0 0) (to_z w128 c.loop-count.least-bits) c.min-least.result fits fits_next c.requires c.loop-count-test.true c.loop-count.invariant
    c.min-least.ensures.value
