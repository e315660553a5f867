use Rattle.std.proofs.Common.{arith}
use Rattle.pricing_pool.proofs.waves.outcome_of.Goals as goal
use Rattle.define_pools.proofs.Lists.{slice_get-at}

pub index-requires : goal.index-requires
index-requires c =
    let outcomes = c.index-outcomes-place.result in
    omega (arith, c.requires.all.1 outcomes (slice_get-at _ _ _ _ c.requires.all.0 c.index-outcomes-place.is), outcomes.ok.0)

pub returns : goal.returns
returns c =
    let there = slice_get-at _ _ _ _ c.requires.all.0 c.index-outcomes-place.is in
    (c.index-outcomes-place.result, there, slice_get-at _ _ _ _ (c.requires.all.1 c.index-outcomes-place.result there) c.index.ensures)
