use Rattle.std.proofs.Common.{◌≡◌, ℕ, ◌+◌, ◌≤◌, ◌<◌, List, ◌++◌, length, get_or, take, sym, ap, subst, ◌∙◌}
use Rattle.std.specs.List.{enumerate_from, flat_map}
use Rattle.define_quotas.specs.AllQuotas.{quotas_of_category}
use Rattle.define_pools.specs.Pool.{Category}
use Rattle.define_quotas.proofs.Listed.{all_listed, one_more_list}
use Rattle.loosening_by_proof.proofs.quotas.weighted_values.Goals as goal

pub loop-place-preserved : goal.loop-place-preserved
loop-place-preserved c =
    let categories = c.args.pool.now.categories in let i = c.loop-place.place in let d = c.category-item.result in let items = c.categories-category-items.ensures in
    let inside : i < length categories = subst (λ (cs : List Category). i < length cs) items c.loop-place-test.true in
    let there : d ≡ get_or categories i d = c.category-item.is ∙ ap (λ (cs : List Category). get_or cs i d) items in
    let before = flat_map quotas_of_category (take i (enumerate_from 0 categories)) in
    c.in_ok-push_category.ensures
    ∙ (ap (λ stood. stood ++ quotas_of_category (i, d)) c.loop-place.invariant
    ∙ (ap (λ (k : Category). before ++ quotas_of_category (i, k)) there
    ∙ sym (one_more_list quotas_of_category categories i d inside)))

pub returns : goal.returns
returns c =
    let categories = c.args.pool.now.categories in let i = c.loop-place.place in
    let whole : length categories ≤ i = subst (λ (cs : List Category). length cs ≤ i) c.categories-category-items.ensures c.loop-place-test.false in
    c.loop-place.invariant ∙ all_listed quotas_of_category categories i whole
