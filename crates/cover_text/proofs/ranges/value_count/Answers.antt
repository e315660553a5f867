use Rattle.std.proofs.Common.{◌≡◌, length, sum_by, take, arith, ap}
use Rattle.define_pools.specs.Pool.{Category}
use Rattle.cover_text.proofs.Values.{few_so_far}
use Rattle.cover_text.proofs.ranges.value_count.Goals as goal

pub overflow_add-count : goal.overflow_add-count
overflow_add-count c =
    let room = few_so_far c.args.pool.now c.facts.ensures c.categories-categories.result.now c.categories-categories.ensures c.loop-category.category-index c.category-item.result c.loop-category-test.true c.category-item.is in
    let so_far : c.loop-category.count ≡ sum_by (λ (category : Category). length category.values) (take c.loop-category.category-index c.categories-categories.result.now) = c.loop-category.invariant in
    let here : length c.values.result.now ≡ length c.category-item.result.values = ap length c.values.ensures in
    omega (arith, room, so_far, here)
