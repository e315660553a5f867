use Rattle.std.proofs.Common.{◌≡◌, ◌<◌, ◌≤◌, ◌++◌, ◌∷◌, [], List, length, take, ap, subst, ◌∙◌, arith}
use Rattle.define_quotas.specs.Teams.{loosened_category}
use Rattle.define_pools.specs.Building.{value_added, value_kind}
use Rattle.define_pools.specs.Pool.{BoundedValue, Category, Pool}
use Rattle.quota_loosen.proofs.Building.{value_is_new, values_grow, with_values}
use Rattle.quota_loosen.proofs.LoosenedParts.{all_taken, next_value, values_many}
use Rattle.quota_loosen.proofs.bounds.add_category.Goals as goal

pub add_right_value-requires : goal.add_right_value-requires
add_right_value-requires c =
    let pool = c.args.made.now in let i = c.loop-value_place.value_place in let d = c.value-item.result in let items = c.values-value-items.ensures in
    let loose = loosened_category c.args.volunteers.now c.args.team.now c.args.place c.args.category.now in
    let inside : i < length c.args.category.now.values = subst (λ (vs : List BoundedValue). i < length vs) items c.loop-value_place-test.true in
    let here : i < length loose.values = omega (arith, inside, values_many c.args.volunteers.now c.args.team.now c.args.place c.args.category.now) in
    let value : BoundedValue = record { name = c.as_str-in-loop-value_place.result.now; lower = c.min.result; upper = c.max.result } in
    let same = next_value c.args.volunteers.now c.args.team.now c.args.place c.args.category.now c.values-value-items.result.now i d value.name c.lower.result c.upper.result c.number_with-number.result value.lower value.upper
    items inside c.value-item.is (c.as_str-in-loop-value_place.ensures ∙ c.name-in-loop-value_place.ensures) c.lower.ensures c.upper.ensures c.number_with-number.ensures c.min.ensures c.max.ensures in
    ap (λ (p : Pool). value_kind p value) c.loop-value_place.invariant ∙ (ap (value_kind (with_values pool loose i)) same ∙ value_is_new pool loose i d c.requires.new c.requires.right here)

pub loop-value_place-preserved : goal.loop-value_place-preserved
loop-value_place-preserved c =
    let pool = c.args.made.now in let i = c.loop-value_place.value_place in let d = c.value-item.result in let items = c.values-value-items.ensures in
    let loose = loosened_category c.args.volunteers.now c.args.team.now c.args.place c.args.category.now in
    let inside : i < length c.args.category.now.values = subst (λ (vs : List BoundedValue). i < length vs) items c.loop-value_place-test.true in
    let here : i < length loose.values = omega (arith, inside, values_many c.args.volunteers.now c.args.team.now c.args.place c.args.category.now) in
    let value : BoundedValue = record { name = c.as_str-in-loop-value_place.result.now; lower = c.min.result; upper = c.max.result } in
    let same = next_value c.args.volunteers.now c.args.team.now c.args.place c.args.category.now c.values-value-items.result.now i d value.name c.lower.result c.upper.result c.number_with-number.result value.lower value.upper
    items inside c.value-item.is (c.as_str-in-loop-value_place.ensures ∙ c.name-in-loop-value_place.ensures) c.lower.ensures c.upper.ensures c.number_with-number.ensures c.min.ensures c.max.ensures in
    c.in_ok-add_right_value.ensures.ok ∙ (ap (λ (p : Pool). value_added p value) c.loop-value_place.invariant ∙ (ap (value_added (with_values pool loose i)) same ∙ values_grow pool loose i d here))

pub returns : goal.returns
returns c =
    let pool = c.args.made.now in let loose = loosened_category c.args.volunteers.now c.args.team.now c.args.place c.args.category.now in
    let whole : length loose.values ≤ c.loop-value_place.value_place =
    omega (arith, c.loop-value_place-test.false, ap length c.values-value-items.ensures, values_many c.args.volunteers.now c.args.team.now c.args.place c.args.category.now) in
    c.loop-value_place.invariant ∙ ap (λ (values : List BoundedValue). record pool { categories = pool.categories ++ record { name = loose.name; values = values } ∷ [] }) (all_taken loose.values c.loop-value_place.value_place whole)
