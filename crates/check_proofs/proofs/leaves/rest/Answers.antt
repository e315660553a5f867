use Rattle.std.proofs.Common.{◌≡◌, ◌<◌, length, get_or, to_z, of_z, rules}
use Rattle.std.specs.Int.{w128}
use Rattle.define_proofs.specs.Leaves.{multiplied}
use Rattle.check_proofs.proofs.LeafSteps.{at_item, narrow_at, rest_fits, rest_next, stored}
use Rattle.check_proofs.proofs.leaves.rest.Goals as goal

pub multiplied-rest-requires-clause-narrow : goal.multiplied-rest-requires-clause-narrow
multiplied-rest-requires-clause-narrow c =
    let leaf = c.args.leaf.now in
    let k = c.loop-multiplier.multiplier-index in
    let m = c.multiplier-item.result in
    let item = at_item c.multipliers-multiplier-items.result.now leaf.multipliers k m c.multipliers-multiplier-items.ensures c.loop-multiplier-test.true c.multiplier-item.is in
    (narrow_at c.args.problem.now leaf k item.0 m item.1 c.args.i c.requires.near c.requires.leaf).0

-- the multiplier that the loop reads is one of the leaf's, and its product is stored unchanged
module _ (c : goal.After-multiplied-rest) where
  item : (c.loop-multiplier.multiplier-index < length c.args.leaf.now.multipliers) × (c.multiplier-item.result ≡ get_or c.args.leaf.now.multipliers c.loop-multiplier.multiplier-index c.multiplier-item.result)
  item = at_item c.multipliers-multiplier-items.result.now c.args.leaf.now.multipliers c.loop-multiplier.multiplier-index c.multiplier-item.result c.multipliers-multiplier-items.ensures c.loop-multiplier-test.true c.multiplier-item.is

  product : to_z w128 (of_z w128 c.multiplied-rest.result) ≡ multiplied c.args.problem.now.constraints c.args.i c.multiplier-item.result
  product = stored c.multiplied-rest.result _ (search rules) c.multiplied-rest.ensures

pub overflow_sub-rest : goal.overflow_sub-rest
overflow_sub-rest c =
    rest_fits c.args.problem.now c.args.leaf.now c.loop-multiplier.multiplier-index (item c).0 c.multiplier-item.result (item c).1 c.requires.near c.requires.leaf c.args.i
    (to_z w128 c.loop-multiplier.rest-bits) (to_z w128 (of_z w128 c.multiplied-rest.result)) c.loop-multiplier.invariant (product c)

pub loop-multiplier-preserved : goal.loop-multiplier-preserved
loop-multiplier-preserved c =
    rest_next c.args.problem.now c.args.leaf.now c.loop-multiplier.multiplier-index (item c).0 c.multiplier-item.result (item c).1 c.requires.near c.requires.leaf c.args.i
    (to_z w128 c.loop-multiplier.rest-bits) (to_z w128 (of_z w128 c.multiplied-rest.result)) c.loop-multiplier.invariant (product c)
