use Rattle.std.proofs.Common.{◌≡◌, ◌<◌, length, get_or, to_z, of_z, rules}
use Rattle.std.specs.Int.{w128}
use Rattle.define_proofs.specs.Leaves.{charge}
use Rattle.check_proofs.proofs.LeafSteps.{at_item, charge_fits, charge_next, narrow_at, stored}
use Rattle.check_proofs.proofs.leaves.charges.Goals as goal

pub charge-charges-requires-clause-narrow : goal.charge-charges-requires-clause-narrow
charge-charges-requires-clause-narrow c =
    let leaf = c.args.leaf.now in
    let k = c.loop-multiplier.multiplier-index in
    let m = c.multiplier-item.result in
    let item = at_item c.multipliers-multiplier-items.result.now leaf.multipliers k m c.multipliers-multiplier-items.ensures c.loop-multiplier-test.true c.multiplier-item.is in
    (narrow_at c.args.problem.now leaf k item.0 m item.1 0 c.requires.near c.requires.leaf).1

-- the multiplier that the loop reads is one of the leaf's, and its charge is stored unchanged
module _ (c : goal.After-charge-charges) where
  item : (c.loop-multiplier.multiplier-index < length c.args.leaf.now.multipliers) × (c.multiplier-item.result ≡ get_or c.args.leaf.now.multipliers c.loop-multiplier.multiplier-index c.multiplier-item.result)
  item = at_item c.multipliers-multiplier-items.result.now c.args.leaf.now.multipliers c.loop-multiplier.multiplier-index c.multiplier-item.result c.multipliers-multiplier-items.ensures c.loop-multiplier-test.true c.multiplier-item.is

  one : to_z w128 (of_z w128 c.charge-charges.result) ≡ charge c.args.problem.now.constraints c.multiplier-item.result
  one = stored c.charge-charges.result _ (search rules) c.charge-charges.ensures

pub overflow_add-charges : goal.overflow_add-charges
overflow_add-charges c =
    charge_fits c.args.problem.now c.args.leaf.now c.loop-multiplier.multiplier-index (item c).0 c.multiplier-item.result (item c).1 c.requires.near c.requires.leaf
    (to_z w128 c.loop-multiplier.charges-bits) (to_z w128 (of_z w128 c.charge-charges.result)) c.loop-multiplier.invariant (one c)

pub loop-multiplier-preserved : goal.loop-multiplier-preserved
loop-multiplier-preserved c =
    charge_next c.args.problem.now c.args.leaf.now c.loop-multiplier.multiplier-index (item c).0 c.multiplier-item.result (item c).1 c.requires.near c.requires.leaf
    (to_z w128 c.loop-multiplier.charges-bits) (to_z w128 (of_z w128 c.charge-charges.result)) c.loop-multiplier.invariant (one c)
