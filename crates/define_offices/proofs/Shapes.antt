-- Lists of categories with the same names of categories and values, in the same order, and the pool with other bounds.
use Rattle.std.proofs.Common.{◌≡◌, ℕ, suc, Bool, true, false, cond, ◌&&◌, List, [], ◌∷◌, length, Option, Some, None, refl, sym, ap, ◌∙◌}
use Rattle.std.specs.List.{list_all}
use Rattle.std.specs.Str.{bytes_eq}
use Rattle.std.proofs.lemmas.Bool.{and_from, and_parts, false≢true}
use Rattle.std.proofs.lemmas.Slice.Eq.{bytes_eq-Decides}
use Rattle.define_pools.specs.Building.{are_known, value_names}
use Rattle.define_pools.specs.Pool.{BoundedValue, Category, IsPool, Pool, Volunteer, has_values}
use Rattle.define_offices.specs.Tables.{Entry, same_names, same_shape}
use Rattle.define_offices.specs.Deciding.{fits_rules}
use Rattle.define_offices.specs.Facts.{AreRules}
use Rattle.define_offices.specs.Pools.{with_bounds}

-- if `same_names` holds of the names of two lists of values, the lists have equal names
pub same_value : (one other : List BoundedValue) → same_names (value_names one) (value_names other) ≡ true → value_names one ≡ value_names other
same_value [] [] h = refl
same_value [] (v ∷ other) h = absurd (false≢true h)
same_value (v ∷ one) [] h = absurd (false≢true h)
same_value (v ∷ one) (w ∷ other) h =
    let parts = and_parts (bytes_eq v.name w.name) (same_names (value_names one) (value_names other)) h in
    let first = (bytes_eq-Decides v.name w.name).0 parts.0 in
    let rest = same_value one other parts.1 in
    cc

pub same_known : (kept rules : List Category) → same_shape kept rules ≡ true → (names : List (List ℕ)) → (are_known kept names ≡ are_known rules names) × (length kept ≡ length rules)
same_known [] [] h names = (refl, refl)
same_known [] (c ∷ rules) h names = absurd (false≢true h)
same_known (c ∷ kept) [] h names = absurd (false≢true h)
same_known (c ∷ kept) (d ∷ rules) h [] =
    let parts = and_parts (bytes_eq c.name d.name && same_names (value_names c.values) (value_names d.values)) (same_shape kept rules) h in
    (refl, ap suc (same_known kept rules parts.1 []).1)
same_known (c ∷ kept) (d ∷ rules) h (name ∷ names) =
    let parts = and_parts (bytes_eq c.name d.name && same_names (value_names c.values) (value_names d.values)) (same_shape kept rules) h in
    let values = same_value c.values d.values (and_parts (bytes_eq c.name d.name) (same_names (value_names c.values) (value_names d.values)) parts.0).1 in
    let rest = same_known kept rules parts.1 names in
    (rw (values, rest.0) refl, ap suc rest.1)

-- lists with the same names of categories and values, in the same order, fit the same rows
pub fits_as : (kept rules : List Category) → same_shape kept rules ≡ true → (register : List Entry) → list_all (λ (e : Entry). fits_rules kept e.values) register ≡ true →
    list_all (λ (e : Entry). fits_rules rules e.values) register ≡ true
fits_as kept rules shape [] h = refl
fits_as kept rules shape (entry ∷ register) h =
    let parts = and_parts (fits_rules kept entry.values) (list_all (λ (e : Entry). fits_rules kept e.values) register) h in
    let same = same_known kept rules shape entry.values in
    let fits : fits_rules rules entry.values ≡ true = rw (← same.0, ← same.1) parts.0 in
    and_from (fits_rules rules entry.values) (list_all (λ (e : Entry). fits_rules rules e.values) register) fits (fits_as kept rules shape register parts.1)

-- ---- the names of two such lists

record SameHead (one other : Category) (more others : List Category) : Type 0 where
  name : one.name ≡ other.name
  values : value_names one.values ≡ value_names other.values
  rest : same_shape more others ≡ true

same_head : (one other : Category) (more others : List Category) → same_shape (one ∷ more) (other ∷ others) ≡ true → SameHead one other more others
same_head one other more others h =
    let parts = and_parts (bytes_eq one.name other.name && same_names (value_names one.values) (value_names other.values)) (same_shape more others) h in
    let heads = and_parts (bytes_eq one.name other.name) (same_names (value_names one.values) (value_names other.values)) parts.0 in
    record { name = (bytes_eq-Decides one.name other.name).0 heads.0; values = same_value one.values other.values heads.1; rest = parts.1 }

length_names : (values : List BoundedValue) → length (value_names values) ≡ length values
length_names [] = refl
length_names (v ∷ values) = ap suc (length_names values)

has_values_as : (kept rules : List Category) → same_shape kept rules ≡ true → (places : List ℕ) → has_values kept places ≡ has_values rules places
has_values_as [] [] h places = refl
has_values_as [] (c ∷ rules) h places = absurd (false≢true h)
has_values_as (c ∷ kept) [] h places = absurd (false≢true h)
has_values_as (c ∷ kept) (d ∷ rules) h [] = refl
has_values_as (c ∷ kept) (d ∷ rules) h (place ∷ places) =
    let same = same_head c d kept rules h in
    let here : length c.values ≡ length d.values = sym (length_names c.values) ∙ (ap length same.values ∙ length_names d.values) in
    rw (here, has_values_as kept rules same.rest places) refl

all_have_as : (kept rules : List Category) → same_shape kept rules ≡ true → (volunteers : List Volunteer) → list_all (λ (v : Volunteer). has_values kept v.values) volunteers ≡ true →
    list_all (λ (v : Volunteer). has_values rules v.values) volunteers ≡ true
all_have_as kept rules shape [] h = refl
all_have_as kept rules shape (v ∷ volunteers) h =
    let parts = and_parts (has_values kept v.values) (list_all (λ (w : Volunteer). has_values kept w.values) volunteers) h in
    and_from (has_values rules v.values) (list_all (λ (w : Volunteer). has_values rules w.values) volunteers) (sym (has_values_as kept rules shape v.values) ∙ parts.0) (all_have_as kept rules shape volunteers parts.1)

same_shape_on : (one next last : List Category) → same_shape one next ≡ true → same_shape next last ≡ true → same_shape one last ≡ true
same_shape_on [] [] last h k = k
same_shape_on [] (d ∷ next) last h k = absurd (false≢true h)
same_shape_on (c ∷ one) [] last h k = absurd (false≢true h)
same_shape_on (c ∷ one) (d ∷ next) [] h k = absurd (false≢true k)
same_shape_on (c ∷ one) (d ∷ next) (e ∷ last) h k =
    let same = same_head c d one next h in
    let parts = and_parts (bytes_eq d.name e.name && same_names (value_names d.values) (value_names e.values)) (same_shape next last) k in
    let first : (bytes_eq c.name e.name && same_names (value_names c.values) (value_names e.values)) ≡ true = rw (same.name, same.values) parts.0 in
    and_from (bytes_eq c.name e.name && same_names (value_names c.values) (value_names e.values)) (same_shape one last) first (same_shape_on one next last same.rest parts.1)

-- ---- a pool with other bounds

pub bounded_is_pool : (pool : Pool) (bounds : List Category) → IsPool pool → AreRules bounds → same_shape pool.categories bounds ≡ true → IsPool (record pool { categories = bounds })
bounded_is_pool pool bounds p rules shape = record {
  size = p.size;
  few_categories = rules.few;
  categories = rules.each;
  different_categories = rules.different;
  few_volunteers = p.few_volunteers;
  ids = p.ids;
  different_ids = p.different_ids;
  values = all_have_as pool.categories bounds shape pool.volunteers p.values;
  households = p.households;
}

pub IsPool-bounds : (pool : Pool) (bounds : Option (List Category)) → IsPool pool → ((categories : List Category) → bounds ≡ Some categories → AreRules categories) → IsPool (with_bounds bounds pool)
IsPool-bounds pool None p are = p
IsPool-bounds pool (Some bounds) p are = by (same_shape pool.categories bounds) refl
  where
    by : (same : Bool) → same_shape pool.categories bounds ≡ same → IsPool (cond same (record pool { categories = bounds }) pool)
    by false shape = p
    by true shape = bounded_is_pool pool bounds p (are bounds refl) shape

pub volunteers-bounds : (pool : Pool) (bounds : Option (List Category)) → (with_bounds bounds pool).volunteers ≡ pool.volunteers
volunteers-bounds pool None = refl
volunteers-bounds pool (Some bounds) = by (same_shape pool.categories bounds)
  where
    by : (same : Bool) → (cond same (record pool { categories = bounds }) pool).volunteers ≡ pool.volunteers
    by true = refl
    by false = refl

-- bounds that fit the pool with the bounds that were set fit the pool without them
pub same_shape_below : (pool : Pool) (old : Option (List Category)) (bounds : List Category) → same_shape (with_bounds old pool).categories bounds ≡ true → same_shape pool.categories bounds ≡ true
same_shape_below pool None bounds h = h
same_shape_below pool (Some old) bounds h = by (same_shape pool.categories old) refl h
  where
    by : (same : Bool) → same_shape pool.categories old ≡ same → same_shape (cond same (record pool { categories = old }) pool).categories bounds ≡ true → same_shape pool.categories bounds ≡ true
    by true e k = same_shape_on pool.categories old bounds e k
    by false e k = k

-- the pool with bounds that fit it has these bounds
pub has_bounds : (pool : Pool) (bounds : List Category) → same_shape pool.categories bounds ≡ true → (with_bounds (Some bounds) pool).categories ≡ bounds
has_bounds pool bounds h = rw h refl
