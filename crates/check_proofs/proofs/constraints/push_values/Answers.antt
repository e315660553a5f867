use Rattle.define_proofs.specs.Constraints.{value_constraint}
use Rattle.check_proofs.proofs.Rows.{one_by_one, one_more}
use Rattle.check_proofs.proofs.constraints.push_values.Goals as goal

pub loop-v-preserved : goal.loop-v-preserved
loop-v-preserved c =
    one_more c.args.rows.now.items c.values-value-items.result.now c.args.category.now.values c.values-value-items.ensures c.loop-v.v (value_constraint c.args.pool.now c.args.c)
    c.loop-v.rows.items c.push.new.self.items c.value-item.result c.value_constraint.result c.loop-v-test.true c.value-item.is c.loop-v.invariant c.in_ok-push.ensures.items c.value_constraint.ensures

pub returns : goal.returns
returns c =
    one_by_one c.args.rows.now.items c.values-value-items.result.now c.args.category.now.values c.values-value-items.ensures c.loop-v.v (value_constraint c.args.pool.now c.args.c)
    c.loop-v.rows.items c.loop-v-test.false c.loop-v.invariant
