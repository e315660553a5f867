use Rattle.std.proofs.Common.{rules, arith, FitsSigned, refl, ◌∙◌, ◌+ℤ◌}
use Rattle.std.specs.Int.{w128}
use Rattle.std.proofs.lemmas.Int.{to_z-of_z, fits_signed_from_abs}
use Rattle.define_searches.proofs.WeightLaws.{child_is, weight_more}
use Rattle.check_search.proofs.weighing.Weights.child.Goals as goal

pub overflow_add-result : goal.overflow_add-result
overflow_add-result c =
    let all = c.args.classes.now in let row = c.args.row.now in let front = c.args.front.now in
    let fw : FitsSigned w128 c.go_on.result = search rules in
    let fg : FitsSigned w128 c.greatest_of-rest.result = search rules in
    let made = c.go_on.ensures.value ∙ weight_more row.a front c.args.count (omega (arith, c.requires.narrow.one_each, c.requires.below)) in
    let child = child_is all row front c.args.count c.args.lack c.facts.ensures c.requires.narrow c.requires.below c.requires.counts c.requires.lack made refl refl c.greatest_of-rest.ensures in
    simp to_z-of_z (fits_signed_from_abs w128 (c.go_on.result +ℤ c.greatest_of-rest.result) child.narrow)

pub returns-clause-value : goal.returns-clause-value
returns-clause-value c =
    let all = c.args.classes.now in let row = c.args.row.now in let front = c.args.front.now in
    let fw : FitsSigned w128 c.go_on.result = search rules in
    let fg : FitsSigned w128 c.greatest_of-rest.result = search rules in
    let made = c.go_on.ensures.value ∙ weight_more row.a front c.args.count (omega (arith, c.requires.narrow.one_each, c.requires.below)) in
    let child = child_is all row front c.args.count c.args.lack c.facts.ensures c.requires.narrow c.requires.below c.requires.counts c.requires.lack made refl refl c.greatest_of-rest.ensures in
    let fs : FitsSigned w128 (c.go_on.result +ℤ c.greatest_of-rest.result) = fits_signed_from_abs w128 (c.go_on.result +ℤ c.greatest_of-rest.result) child.narrow in
    let value = child.value in
    simp to_z-of_z value
