use Rattle.std.proofs.Common.{◌≡◌, ◌∙◌, arith, rules, FitsSigned, to_z, of_z}
use Rattle.std.specs.Int.{w128}
use Rattle.std.proofs.lemmas.Int.{to_z-of_z}
use Rattle.pool_model.proofs.PanelWeights.{next_within}
use Rattle.pool_model.proofs.certificates.panel_weight.Goals as goal

pub with_weight-sum-requires : goal.with_weight-sum-requires
with_weight-sum-requires c =
    let fits : FitsSigned w128 c.weight_of.result = search rules in
    let again : to_z w128 (of_z w128 c.weight_of.result) ≡ c.weight_of.result = to_z-of_z w128 c.weight_of.result fits in
    let next = next_within c.args.stage.now c.args.panel.now c.members-i-items.result.now c.loop-i.i-index 0 (to_z w128 c.loop-i.sum-bits) (to_z w128 (of_z w128 c.weight_of.result))
    c.members-i-items.ensures.value c.members-i-items.ensures.increasing c.loop-i-test.true c.loop-i.invariant (again ∙ c.weight_of.ensures) in
    let within = next.1 in let most = c.requires in omega arith

pub loop-i-preserved : goal.loop-i-preserved
loop-i-preserved c =
    let fits : FitsSigned w128 c.weight_of.result = search rules in
    let again : to_z w128 (of_z w128 c.weight_of.result) ≡ c.weight_of.result = to_z-of_z w128 c.weight_of.result fits in
    let next = next_within c.args.stage.now c.args.panel.now c.members-i-items.result.now c.loop-i.i-index 0 (to_z w128 c.loop-i.sum-bits) (to_z w128 (of_z w128 c.weight_of.result))
    c.members-i-items.ensures.value c.members-i-items.ensures.increasing c.loop-i-test.true c.loop-i.invariant (again ∙ c.weight_of.ensures) in
    let fits_sum : FitsSigned w128 c.with_weight-sum.result = search rules in
    to_z-of_z w128 c.with_weight-sum.result fits_sum ∙ (c.with_weight-sum.ensures ∙ next.0)
