use Rattle.std.proofs.Common.{◌≡◌, ◌≤◌, ◌<◌, ◌++◌, length, get_or, take, sym, ap, ◌∙◌, append_assoc}
use Rattle.std.specs.List.{enumerate_from, flat_map}
use Rattle.define_pools.specs.Pool.{Category}
use Rattle.define_quotas.specs.AllQuotas.{quotas_of_category}
use Rattle.define_quotas.proofs.Listed.{all_listed, one_more_list}
use Rattle.quota_conflicts.proofs.together.push_categories.Goals as goal

pub loop-place-preserved : goal.loop-place-preserved
loop-place-preserved c =
    let categories = c.args.categories.now in let i = c.loop-place.place in let d = c.index-categories-place.result in
    let inside : i < length categories = c.loop-place-test.true in
    let there : d ≡ get_or categories i d = c.index-categories-place.is in
    let start = c.args.quotas.now.items in
    let before = flat_map quotas_of_category (take i (enumerate_from 0 categories)) in
    c.in_ok-push_values.ensures
    ∙ (ap (λ stood. stood ++ quotas_of_category (i, d)) c.loop-place.invariant
    ∙ (append_assoc start before (quotas_of_category (i, d))
    ∙ (ap (λ (k : Category). start ++ (before ++ quotas_of_category (i, k))) there
    ∙ ap (λ more. start ++ more) (sym (one_more_list quotas_of_category categories i d inside)))))

pub returns : goal.returns
returns c =
    let categories = c.args.categories.now in let i = c.loop-place.place in
    let start = c.args.quotas.now.items in
    let whole : length categories ≤ i = c.loop-place-test.false in
    c.loop-place.invariant ∙ ap (λ more. start ++ more) (all_listed quotas_of_category categories i whole)
