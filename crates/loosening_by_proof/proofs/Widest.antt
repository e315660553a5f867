-- The number of members with each value is within the widest bounds of a pool exactly if it is at most 999.
use Rattle.std.proofs.Common.{◌≡◌, ℕ, ◌+◌, Bool, true, ◌&&◌, leb, List, [], ◌∷◌, map, refl, ap₂, arith}
use Rattle.std.specs.List.{enumerate_from, list_all}
use Rattle.std.proofs.lemmas.Bool.{le-leb}
use Rattle.define_pools.specs.Pool.{BoundedValue, Category, Volunteer, is_within, meets_quotas, members_with}
use Rattle.define_quotas.specs.Teams.{widest_category, widest_value}

few_is : (number : ℕ) → leb number 999 ≡ (leb 0 number && leb number 999)
few_is number = let low : leb 0 number ≡ true = le-leb 0 number (omega arith) in rw low refl

module _ (volunteers : List Volunteer) (members : List ℕ) where
  abbrev few_have : ℕ → ℕ → List BoundedValue → Bool
  few_have c first values = list_all (λ (v, value). leb (members_with volunteers members c v) 999) (enumerate_from first values)

  few_of_category : (c first : ℕ) (values : List BoundedValue) →
      few_have c first values ≡ list_all (λ (v, value). is_within value (members_with volunteers members c v)) (enumerate_from first (map widest_value values))
  few_of_category c first [] = refl
  few_of_category c first (value ∷ values) =
      let here = few_is (members_with volunteers members c first) in let rest = few_of_category c (first + 1) values in ap₂ (λ a b. a && b) here rest

  few_of_all : (first : ℕ) (categories : List Category) → list_all (λ (c, category). few_have c 0 category.values) (enumerate_from first categories)
      ≡ list_all (λ (c, category). list_all (λ (v, value). is_within value (members_with volunteers members c v)) (enumerate_from 0 category.values)) (enumerate_from first (map widest_category categories))
  few_of_all first [] = refl
  few_of_all first (category ∷ categories) =
      let here = few_of_category first 0 category.values in let rest = few_of_all (first + 1) categories in ap₂ (λ a b. a && b) here rest

  pub few_if_widest : (categories : List Category) →
      list_all (λ (c, category). few_have c 0 category.values) (enumerate_from 0 categories) ≡ meets_quotas (map widest_category categories) volunteers members
  few_if_widest categories = few_of_all 0 categories
