use Rattle.std.proofs.Common.{◌∙◌, ◌<◌, ap, subst, length, List}
use Rattle.define_pools.specs.Pool.{BoundedValue, Pool}
use Rattle.define_pools.specs.Building.{value_added, value_kind}
use Rattle.office_import.proofs.PoolLemmas.{next_value, value_is_new, values_grow, with_values}
use Rattle.office_import.proofs.drafts.add_draft.Goals as goal

pub add_right_value-requires : goal.add_right_value-requires
add_right_value-requires c =
    let draft = c.args.draft.now in let pool = c.args.pool.now in let i = c.loop-value.value-index in let d = c.value-item.result in
    let items = c.values-value-items.ensures in
    let inside : i < length draft.values = subst (λ (vs : List BoundedValue). i < length vs) items c.loop-value-test.true in
    let value : BoundedValue = record { name = c.as_str-in-loop-value.result.now; lower = c.lower.result; upper = c.upper.result } in
    let same = next_value draft.values c.values-value-items.result.now i d value.name value.lower value.upper items c.value-item.is (c.as_str-in-loop-value.ensures ∙ c.name-in-loop-value.ensures) c.lower.ensures c.upper.ensures in
    ap (λ (p : Pool). value_kind p value) c.loop-value.invariant ∙ (ap (value_kind (with_values pool draft i)) same ∙ value_is_new pool draft i d c.requires.new c.requires.right inside)

pub loop-value-preserved : goal.loop-value-preserved
loop-value-preserved c =
    let draft = c.args.draft.now in let pool = c.args.pool.now in let i = c.loop-value.value-index in let d = c.value-item.result in
    let items = c.values-value-items.ensures in
    let inside : i < length draft.values = subst (λ (vs : List BoundedValue). i < length vs) items c.loop-value-test.true in
    let value : BoundedValue = record { name = c.as_str-in-loop-value.result.now; lower = c.lower.result; upper = c.upper.result } in
    let same = next_value draft.values c.values-value-items.result.now i d value.name value.lower value.upper items c.value-item.is (c.as_str-in-loop-value.ensures ∙ c.name-in-loop-value.ensures) c.lower.ensures c.upper.ensures in
    c.in_ok-add_right_value.ensures.ok ∙ (ap (λ (p : Pool). value_added p value) c.loop-value.invariant ∙ (ap (value_added (with_values pool draft i)) same ∙ values_grow pool draft i d inside))
