use Rattle.std.proofs.Common.{rules, ◌≡◌, length, drop, ap, ◌∙◌, ◌+ℤ◌, ◌<◌, ◌^◌, FitsSigned, to_z, of_z, subst, sym}
use Rattle.std.specs.Int.{w128}
use Rattle.std.specs.Prelude.{unsigned_abs}
use Rattle.std.proofs.lemmas.Int.{to_z-of_z, fits_signed_from_abs}
use Rattle.define_searches.specs.Compositions.{weight_in}
use Rattle.define_searches.specs.Fronts.{greatest_sum, optimistic}
use Rattle.define_searches.proofs.WeightLaws.{front_narrow}
use Rattle.panel_search.proofs.units.optimistic.Goals as goal

-- the sum of the front's weight and of the greatest sum of the later classes is the optimistic weight, and fits 128 bits
module _ (c : goal.After-weight) where
  weighs : c.weight.result +ℤ c.greatest_sum-rest.result ≡ weight_in c.args.row.now.a c.args.front.now +ℤ greatest_sum c.args.lack (drop (length c.args.front.now) c.args.classes.now.classes) (drop (length c.args.front.now) c.args.row.now.a)
  weighs =
      let entries = c.entries-entries.ensures in let front = c.args.front.now in
      ap (λ z. z +ℤ c.greatest_sum-rest.result) (c.weight.ensures ∙ ap (λ xs. weight_in xs front) entries)
      ∙ ap (λ z. weight_in c.args.row.now.a front +ℤ z) (c.greatest_sum-rest.ensures ∙ ap (λ xs. greatest_sum c.args.lack (drop (length front) c.args.classes.now.classes) (drop (length front) xs)) entries)

  fits : FitsSigned w128 (c.weight.result +ℤ c.greatest_sum-rest.result)
  fits =
      let narrow : unsigned_abs (c.weight.result +ℤ c.greatest_sum-rest.result) < 2 ^ 127 =
      subst (λ z. unsigned_abs z < 2 ^ 127) (sym weighs) (front_narrow c.args.classes.now c.args.row.now.a c.args.front.now c.args.lack c.facts.ensures c.requires.narrow c.requires.within c.requires.counts) in
      fits_signed_from_abs w128 (c.weight.result +ℤ c.greatest_sum-rest.result) narrow

  stored : to_z w128 (of_z w128 c.weight.result) +ℤ to_z w128 (of_z w128 c.greatest_sum-rest.result) ≡ c.weight.result +ℤ c.greatest_sum-rest.result
  stored =
      let fits_weight : FitsSigned w128 c.weight.result = search rules in
      let fits_rest : FitsSigned w128 c.greatest_sum-rest.result = search rules in
      simp to_z-of_z

pub overflow_add-result : goal.overflow_add-result
overflow_add-result c = subst (FitsSigned w128) (sym (stored c)) (fits c)

pub returns : goal.returns
returns c =
    let all = c.args.classes.now in let row = c.args.row.now in let front = c.args.front.now in
    let value : c.weight.result +ℤ c.greatest_sum-rest.result ≡ optimistic all row front =
    weighs c ∙ ap (λ n. weight_in row.a front +ℤ greatest_sum n (drop (length front) all.classes) (drop (length front) row.a)) c.requires.lack in
    ap (λ z. to_z w128 (of_z w128 z)) (stored c) ∙ to_z-of_z w128 (c.weight.result +ℤ c.greatest_sum-rest.result) (fits c) ∙ value
