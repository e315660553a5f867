-- The misses of the quotas of all values sum to a team's cost.
use Rattle.std.proofs.Common.{◌≡◌, ℕ, suc, ◌+◌, ◌<◌, List, [], ◌∷◌, ◌++◌, length, get_or, refl, sym, ap, ap₂, ◌∙◌, arith}
use Rattle.std.specs.Prelude.{sum_by}
use Rattle.std.specs.List.{AllByRecursion, enumerate_from, flat_map}
use Rattle.define_pools.proofs.Sums.{sum_by-is-total, total, total_eq}
use Rattle.define_pools.specs.Pool.{BoundedValue, Category, Pool, members_with}
use Rattle.define_quotas.specs.Quotas.{category_at, miss, misses, value_at}
use Rattle.define_quotas.specs.Teams.{missed_by, team_cost}
use Rattle.define_quotas.specs.AllQuotas.{quotas_of_category, quotas_of_value, value_quotas}

-- what holds of the element at each place holds of each numbered element
each_place : {X : Type 0} (P : ℕ × X → Type 0) (first : ℕ) (xs : List X) (d : X) → ((k n : ℕ) → n ≡ first + k → k < length xs → P (n, get_or xs k d)) → AllByRecursion P (enumerate_from first xs)
each_place P first [] d h = tt
each_place P first (x ∷ xs) d h = (h 0 first (omega arith) (omega arith), each_place P (first + 1) xs d (λ k n e l. h (suc k) n (omega arith) (omega arith)))

pub total-append : {X : Type 0} (f : X → ℕ) (xs ys : List X) → total f (xs ++ ys) ≡ total f xs + total f ys
total-append f [] ys = omega arith
total-append f (x ∷ xs) ys = let rest = total-append f xs ys in omega (arith, rest)

total-flat_map : {X Y : Type 0} (f : Y → ℕ) (g : X → List Y) (xs : List X) → total f (flat_map g xs) ≡ total (λ x. total f (g x)) xs
total-flat_map f g [] = refl
total-flat_map f g (x ∷ xs) = let rest = total-flat_map f g xs in let split = total-append f (g x) (flat_map g xs) in omega (arith, rest, split)

module _ (pool : Pool) (team : List ℕ) where
  abbrev value_missed : ℕ → ℕ × BoundedValue → ℕ
  value_missed c (v, value) = missed_by value.lower value.upper (members_with pool.volunteers team c v)

  abbrev category_missed : ℕ × Category → ℕ
  category_missed (c, category) = sum_by (value_missed c) (enumerate_from 0 category.values)

  abbrev value_misses : ℕ → ℕ × BoundedValue → ℕ
  value_misses c (v, value) = total (miss pool team) (quotas_of_value c v)

  values_cost : (c n : ℕ) → n ≡ 0 + c → total (miss pool team) (quotas_of_category (n, category_at pool c)) ≡ category_missed (n, category_at pool c)
  values_cost c n e =
      let values = (category_at pool c).values in
      total-flat_map (miss pool team) (λ (v, value). quotas_of_value n v) (enumerate_from 0 values)
      ∙ total_eq (value_misses n) (value_missed n) (enumerate_from 0 values)
      (each_place (λ p. value_misses n p ≡ value_missed n p) 0 values (record { name = []; lower = 0; upper = 0 })
      (λ k m f l.
      let here : n ≡ c = omega arith in
      let place : m ≡ k = omega arith in
      let same : value_at pool n m ≡ value_at pool c k = ap₂ (λ c v. value_at pool c v) here place in
      let low = ap (λ (v : BoundedValue). v.lower) same in
      let up = ap (λ (v : BoundedValue). v.upper) same in
      omega (arith, low, up)))
      ∙ sym (sum_by-is-total (value_missed n) (enumerate_from 0 values))

  pub misses_are_cost : misses pool team (value_quotas pool) ≡ team_cost pool team
  misses_are_cost =
      sum_by-is-total (miss pool team) (value_quotas pool)
      ∙ total-flat_map (miss pool team) quotas_of_category (enumerate_from 0 pool.categories)
      ∙ total_eq (λ p. total (miss pool team) (quotas_of_category p)) category_missed (enumerate_from 0 pool.categories)
      (each_place (λ p. total (miss pool team) (quotas_of_category p) ≡ category_missed p) 0 pool.categories (record { name = []; values = [] }) (λ c n e l. values_cost c n e))
      ∙ sym (sum_by-is-total category_missed (enumerate_from 0 pool.categories))
