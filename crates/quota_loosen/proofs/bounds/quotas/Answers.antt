use Rattle.std.proofs.Common.{◌≡◌, ◌<◌, ◌≤◌, ◌+◌, ◌++◌, ◌∷◌, [], List, length, take, get_or, true, ap, sym, subst, ◌∙◌, arith}
use Rattle.std.proofs.lemmas.Bool.{leb-true}
use Rattle.std.proofs.lemmas.List.{take_more}
use Rattle.define_pools.proofs.Each.{passes_at}
use Rattle.define_quotas.specs.Teams.{loosened, loosened_category}
use Rattle.define_quotas.proofs.MovedBounds.{loosened_is_pool}
use Rattle.define_pools.specs.Building.{category_kind}
use Rattle.define_pools.specs.Pool.{Category, Pool, Volunteer, is_category}
use Rattle.quota_loosen.proofs.Building.{category_is_new}
use Rattle.quota_loosen.proofs.LoosenedParts.{all_taken, categories_many, category_at}
use Rattle.quota_loosen.proofs.bounds.quotas.Goals as goal

pub add_category-requires-clause-new : goal.add_category-requires-clause-new
add_category-requires-clause-new c =
    let pool = c.args.pool.now in let team = c.args.team.now in let i = c.loop-place.place in let d = c.category-item.result in let items = c.categories-category-items.ensures in
    let loose = (loosened pool team).categories in
    let inside : i < length pool.categories = subst (λ (cs : List Category). i < length cs) items c.loop-place-test.true in
    let here : i < length loose = omega (arith, inside, categories_many pool team) in
    let there : d ≡ get_or pool.categories i d = c.category-item.is ∙ ap (λ (cs : List Category). get_or cs i d) items in
    let place = category_at pool team i d d inside in
    let limits = loosened_is_pool pool team c.requires.pool c.requires.team in
    let built : Pool = record { size = pool.size; categories = take i loose; volunteers = [] } in
    ap (λ (p : Pool). category_kind p d.name) c.loop-place.invariant
    ∙ (ap (λ (k : Category). category_kind built k.name) there ∙ (sym (ap (λ (k : Category). category_kind built k.name) place)
    ∙ category_is_new pool.size loose i d (leb-true (length loose) 20 limits.few_categories) limits.different_categories limits.categories here))

pub add_category-requires-clause-right : goal.add_category-requires-clause-right
add_category-requires-clause-right c =
    let pool = c.args.pool.now in let team = c.args.team.now in let i = c.loop-place.place in let d = c.category-item.result in let items = c.categories-category-items.ensures in
    let loose = (loosened pool team).categories in
    let inside : i < length pool.categories = subst (λ (cs : List Category). i < length cs) items c.loop-place-test.true in
    let here : i < length loose = omega (arith, inside, categories_many pool team) in
    let there : d ≡ get_or pool.categories i d = c.category-item.is ∙ ap (λ (cs : List Category). get_or cs i d) items in
    let place = category_at pool team i d d inside in
    let limits = loosened_is_pool pool team c.requires.pool c.requires.team in
    let right = passes_at is_category loose i d limits.categories here in
    let is : get_or loose i d ≡ loosened_category c.volunteers.result.now team i d =
    place ∙ (ap (λ (k : Category). loosened_category pool.volunteers team i k) (sym there) ∙ ap (λ (vs : List Volunteer). loosened_category vs team i d) (sym c.volunteers.ensures)) in
    subst (λ (k : Category). is_category k ≡ true) is right

pub loop-place-preserved : goal.loop-place-preserved
loop-place-preserved c =
    let pool = c.args.pool.now in let team = c.args.team.now in let i = c.loop-place.place in let d = c.category-item.result in let items = c.categories-category-items.ensures in
    let loose = (loosened pool team).categories in
    let inside : i < length pool.categories = subst (λ (cs : List Category). i < length cs) items c.loop-place-test.true in
    let here : i < length loose = omega (arith, inside, categories_many pool team) in
    let there : d ≡ get_or pool.categories i d = c.category-item.is ∙ ap (λ (cs : List Category). get_or cs i d) items in
    let place = category_at pool team i d d inside in
    let limits = loosened_is_pool pool team c.requires.pool c.requires.team in
    let is : loosened_category c.volunteers.result.now team i d ≡ get_or loose i d =
    ap (λ (vs : List Volunteer). loosened_category vs team i d) c.volunteers.ensures ∙ (ap (λ (k : Category). loosened_category pool.volunteers team i k) there ∙ sym place) in
    let more : take i loose ++ loosened_category c.volunteers.result.now team i d ∷ [] ≡ take (i + 1) loose =
    ap (λ (k : Category). take i loose ++ k ∷ []) is ∙ sym (take_more loose i d here) in
    c.in_ok-add_category.ensures
    ∙ (ap (λ (p : Pool). record p { categories = p.categories ++ loosened_category c.volunteers.result.now team i d ∷ [] }) c.loop-place.invariant
    ∙ ap (λ (cs : List Category). record { size = pool.size; categories = cs; volunteers = [] }) more)

pub returns : goal.returns
returns c =
    let pool = c.args.pool.now in let team = c.args.team.now in let loose = (loosened pool team).categories in
    let whole : length loose ≤ c.loop-place.place = omega (arith, c.loop-place-test.false, ap length c.categories-category-items.ensures, categories_many pool team) in
    c.loop-place.invariant ∙ ap (λ (cs : List Category). record { size = pool.size; categories = cs; volunteers = [] }) (all_taken loose c.loop-place.place whole)
