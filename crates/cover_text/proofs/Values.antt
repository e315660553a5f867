-- Counting the values of a pool, category by category.
use Rattle.std.proofs.Common.{◌≡◌, ℕ, ◌+◌, ◌<◌, ◌≤◌, List, get_or, length, sum_by, take, ap, arith}
use Rattle.std.proofs.lemmas.List.Sums.{sum_by_more_le}
use Rattle.define_pools.specs.Pool.{Category, IsPool, Pool}
use Rattle.define_covers.specs.CoverRanges.{value_count}
use Rattle.define_covers.proofs.FewValues.{few_values}

-- the values of the categories so far and those of the next one are at most 1000
pub few_so_far : (pool : Pool) → IsPool pool → (categories : List Category) → categories ≡ pool.categories → (i : ℕ) (category : Category) → i < length categories → category ≡ get_or categories i category →
    sum_by (λ category. length category.values) (take i categories) + length category.values ≤ 1000
few_so_far pool is categories same i category l here =
    let values : Category → ℕ = λ category. length category.values in
    let most = few_values pool is in
    let all : sum_by values categories ≡ value_count pool = ap (sum_by values) same in
    let more = sum_by_more_le values categories i category l in
    let this : values category ≡ values (get_or categories i category) = ap values here in
    omega (arith, most, all, more, this)
