use Rattle.check_search.proofs.RuledOut.{bound_here, room_next}
use Rattle.check_search.proofs.tallies.room_left.Goals as goal

pub loop-category-preserved : goal.loop-category-preserved
loop-category-preserved c =
    let bounds = c.args.bounds.now in let values = c.args.values.now in let k = c.loop-category.category in
    let has = bound_here bounds values k c.index-bounds-category.result c.as_slice.result.now (record { lower = 0; upper = 0 }) c.requires.bounds c.loop-category-test.true c.index-bounds-category.is c.as_slice.ensures in
    room_next bounds c.args.held.now values k _ c.loop-category-test.true has c.args.most c.loop-category.room c.saturating_sub.result c.min-room.result c.loop-category.invariant c.saturating_sub.ensures c.min-room.ensures
