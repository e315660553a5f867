-- A pool has at most 1000 values.
use Rattle.std.proofs.Common.{◌≡◌, ◌*◌, ◌≤◌, true, leb, List, [], ◌∷◌, length, sum_by, arith}
use Rattle.std.specs.List.{list_all}
use Rattle.std.proofs.lemmas.Bool.{and_parts, leb-true}
use Rattle.std.proofs.lemmas.List.Sums.{sum_by-cons}
use Rattle.define_pools.specs.Pool.{Category, IsPool, Pool, is_category, is_value}
use Rattle.define_covers.specs.CoverRanges.{value_count}

-- categories of at most 50 values each have at most 50 times as many values
values_in_all : (categories : List Category) → list_all is_category categories ≡ true → sum_by (λ category. length category.values) categories ≤ 50 * length categories
values_in_all [] h = omega arith
values_in_all (category ∷ categories) h =
    let parts = and_parts (is_category category) (list_all is_category categories) h in
    let sum = sum_by-cons (λ (category : Category). length category.values) category categories in
    let later = values_in_all categories parts.1 in
    let here : length category.values ≤ 50 = leb-true (length category.values) 50 (few category parts.0) in
    omega (arith, sum, later, here)
  where
    few : (category : Category) → is_category category ≡ true → leb (length category.values) 50 ≡ true
    few category is = (and_parts _ (leb (length category.values) 50) (and_parts _ _ (and_parts _ (list_all is_value category.values) is).0).0).1

pub few_values : (pool : Pool) → IsPool pool → value_count pool ≤ 1000
few_values pool is =
    let all = values_in_all pool.categories is.categories in
    let few = leb-true (length pool.categories) 20 is.few_categories in
    omega (arith, all, few)
