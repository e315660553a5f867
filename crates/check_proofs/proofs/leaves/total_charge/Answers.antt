use Rattle.std.proofs.Common.{get_or, to_z, of_z, refl, ◌∙◌, rules}
use Rattle.std.specs.Int.{w128}
use Rattle.define_pools.specs.declared.Standing.TheVariants.{Open}
use Rattle.check_proofs.proofs.LeafSteps.{stored, total_ends, total_fits, total_next}
use Rattle.check_proofs.proofs.leaves.total_charge.Goals as goal

pub overflow_add-total : goal.overflow_add-total
overflow_add-total c =
    let all = c.args.standings.now in
    let k = c.loop-i.i in
    let one = c.rest_charge-total.result in
    total_fits c.args.problem.now c.args.leaf.now all k (get_or all k Open) Open c.loop-i-test.true refl c.requires.near c.requires.leaf
    (to_z w128 c.loop-i.total-bits) (to_z w128 (of_z w128 one)) c.loop-i.invariant (stored one _ (search rules) c.rest_charge-total.ensures)

pub loop-i-preserved : goal.loop-i-preserved
loop-i-preserved c =
    let all = c.args.standings.now in
    let k = c.loop-i.i in
    let one = c.rest_charge-total.result in
    total_next c.args.problem.now c.args.leaf.now all k (get_or all k Open) Open c.loop-i-test.true refl c.requires.near c.requires.leaf
    (to_z w128 c.loop-i.total-bits) (to_z w128 (of_z w128 one)) c.loop-i.invariant (stored one _ (search rules) c.rest_charge-total.ensures)

pub returns : goal.returns
returns c = c.loop-i.invariant ∙ total_ends c.args.problem.now c.args.leaf.now c.args.standings.now c.loop-i.i c.loop-i-test.false
