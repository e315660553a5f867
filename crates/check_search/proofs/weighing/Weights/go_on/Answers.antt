use Rattle.std.proofs.Common.{rules, ◌≡◌, ◌+◌, ◌*◌, ◌<◌, ◌^◌, length, arith, set, pos, get_or, FitsSigned, sym, ap, ◌∙◌, ◌+ℤ◌, ◌*ℤ◌}
use Rattle.std.specs.Int.{w128}
use Rattle.std.specs.Prelude.{unsigned_abs}
use Rattle.std.proofs.lemmas.Int.{to_z-of_z}
use Rattle.define_searches.specs.Compositions.{weight_in}
use Rattle.define_searches.specs.Weights.{at}
use Rattle.define_searches.proofs.WeightLaws.{child_narrow, weight_more, weighs_child}
use Rattle.check_search.proofs.weighing.Weights.go_on.Goals as goal

pub with_count-weight-requires : goal.with_count-weight-requires
with_count-weight-requires c =
    let all = c.args.classes.now in let row = c.args.row.now in let depth = length c.args.front.now in
    let fw : FitsSigned w128 c.weight.result = search rules in
    let fx : FitsSigned w128 (get_or c.entries.result.now depth (pos 0)) = search rules in
    let entry = ap (λ xs. at xs depth) c.entries.ensures in
    let narrow : unsigned_abs c.weight.result + c.args.count * unsigned_abs (get_or c.entries.result.now depth (pos 0)) < 2 ^ 127 =
    omega (
      arith,
      child_narrow all row.a c.args.front.now c.args.count 0 c.facts.ensures c.requires.narrow c.requires.below c.requires.counts,
      ap unsigned_abs c.weight.ensures,
      ap (λ z. c.args.count * unsigned_abs z) entry,
    ) in
    simp to_z-of_z narrow

pub returns-clause-value : goal.returns-clause-value
returns-clause-value c =
    let row = c.args.row.now in let depth = length c.args.front.now in
    let fw : FitsSigned w128 c.weight.result = search rules in
    let fx : FitsSigned w128 (get_or c.entries.result.now depth (pos 0)) = search rules in
    let made : c.with_count-weight.result ≡ c.weight.result +ℤ pos c.args.count *ℤ get_or c.entries.result.now depth (pos 0) = simp to_z-of_z at c.with_count-weight.ensures in
    let fv : FitsSigned w128 c.with_count-weight.result = search rules in
    let value = made ∙ ap (λ z. z +ℤ pos c.args.count *ℤ get_or c.entries.result.now depth (pos 0)) c.weight.ensures
    ∙ ap (λ xs. weight_in row.a c.args.front.now +ℤ pos c.args.count *ℤ at xs depth) c.entries.ensures
    ∙ sym (weight_more row.a c.args.front.now c.args.count (omega (arith, c.requires.narrow.one_each, c.requires.below))) in
    simp to_z-of_z value

pub returns-clause-weighs : goal.returns-clause-weighs
returns-clause-weighs c =
    let self = c.args.self.now in let row = c.args.row.now in let depth = length c.args.front.now in
    let fw : FitsSigned w128 c.weight.result = search rules in
    let fx : FitsSigned w128 (get_or c.entries.result.now depth (pos 0)) = search rules in
    let fv : FitsSigned w128 c.with_count-weight.result = search rules in
    let made : c.with_count-weight.result ≡ c.weight.result +ℤ pos c.args.count *ℤ get_or c.entries.result.now depth (pos 0) = simp to_z-of_z at c.with_count-weight.ensures in
    let here = made ∙ ap (λ z. z +ℤ pos c.args.count *ℤ get_or c.entries.result.now depth (pos 0)) c.weight.ensures
    ∙ ap (λ xs. weight_in row.a c.args.front.now +ℤ pos c.args.count *ℤ at xs depth) c.entries.ensures in
    weighs_child c.args.classes.now row c.args.front.now c.args.count _ _ c.requires.narrow c.requires.below c.requires.stands
    (ap (set self.by_length.items (depth + 1)) (to_z-of_z w128 c.with_count-weight.result fv ∙ here))
