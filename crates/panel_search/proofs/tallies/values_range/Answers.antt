use Rattle.std.proofs.Common.{arith}
use Rattle.panel_search.proofs.Ranges.{range_next}
use Rattle.panel_search.proofs.tallies.values_range.Goals as goal

pub loop-category-preserved : goal.loop-category-preserved
loop-category-preserved c = (
  omega (arith, c.counts_within_reach-range.ensures.until, c.loop-category.invariant.0),
  range_next c.args.bounds.now c.args.held.now c.args.later.now c.args.values.now c.args.from c.args.until c.loop-category.category c.loop-category.low c.loop-category.end _ _ _ c.loop-category.invariant.1 c.bound_at-bound.ensures
      c.counts_within_reach-range.ensures.inside c.counts_within_reach-range.ensures.outside,
)
