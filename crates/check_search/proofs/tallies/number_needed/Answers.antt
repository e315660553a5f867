use Rattle.check_search.proofs.RuledOut.{bound_here, needed_next}
use Rattle.check_search.proofs.tallies.number_needed.Goals as goal

pub loop-category-preserved : goal.loop-category-preserved
loop-category-preserved c =
    let bounds = c.args.bounds.now in let values = c.args.values.now in let k = c.loop-category.category in
    let has = bound_here bounds values k c.index-bounds-category.result c.as_slice.result.now (record { lower = 0; upper = 0 }) c.requires.bounds c.loop-category-test.true c.index-bounds-category.is c.as_slice.ensures in
    needed_next bounds c.args.held.now values k _ c.loop-category-test.true has c.args.later.now c.args.least c.loop-category.needed c.saturating_sub.result c.max-needed.result c.loop-category.invariant c.saturating_sub.ensures c.max-needed.ensures
