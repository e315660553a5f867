-- The classes of a pool are within the limits that follow from the limits of a pool.
use Rattle.std.proofs.Common.{◌≡◌, ℕ, zero, suc, ◌≤◌, ◌<◌, Bool, true, ◌&&◌, leb, ltb, List, [], ◌∷◌, map, length, get_or, slice_index, sum_by, refl, arith, le_of_eq, Option, Some, None}
use Rattle.std.specs.Prelude.{not}
use Rattle.std.specs.List.{All, AllByRecursion, list_all, list_any, range_with_len}
use Rattle.std.proofs.lemmas.Bool.{and_parts, leb-true, ltb-true, false≢true}
use Rattle.std.proofs.lemmas.List.{length-map}
use Rattle.std.proofs.lemmas.List.Elements.{All-from_recursion}
use Rattle.define_pools.proofs.Each.{each_map, each_from_list_all, each_mapped, each_range, each_filter}
use Rattle.define_pools.proofs.Sums.{total, sum_by-is-total, length-filter-total}
use Rattle.define_pools.specs.declared.Limits.TheVariants.{Large}
use Rattle.define_pools.specs.declared.Standing.{Standing}
use Rattle.define_pools.specs.declared.Standing.TheVariants.{Open, Seated, Gone}
use Rattle.define_pools.specs.Lists.{all_different}
use Rattle.define_pools.specs.Pool.{Pool, IsPool, Category, BoundedValue, most_members, most_volunteers, volunteer, is_name, are_bounds, is_value, is_category, has_values}
use Rattle.define_searches.specs.declared.Bounds.{Bounds}
use Rattle.define_searches.specs.Classes.{Class, HasPlaces, IsKnownHousehold, KeepsLimits, MakesClasses, leaders, class_of, class_by, classes_by, bounds_of, most_taken, shared_household, volunteer_count}
use Rattle.define_searches.proofs.FirstPanel.{rank_below}
use Rattle.define_searches.proofs.Households.{number_below}
use Rattle.define_searches.proofs.PoolClasses.{members_in_all, classes_in_order}

abbrev bound_of : BoundedValue → Bounds
bound_of value = record { lower = value.lower; upper = value.upper }

abbrev InRange : Bounds → Type 0
InRange bound = (bound.lower ≤ bound.upper) × (bound.upper ≤ 999)

-- ---- the limits of categories

pub category_parts : (category : Category) → is_category category ≡ true → (length category.values ≤ 50) × (list_all is_value category.values ≡ true)
category_parts category h =
    let A = is_name category.name in let B = leb (length category.values) 50 in
    let C = all_different (map (λ value. value.name) category.values) in let D = list_all is_value category.values in
    let d = and_parts (A && B && C) D h in
    let c = and_parts (A && B) C d.0 in
    let b = and_parts A B c.0 in
    (leb-true (length category.values) 50 b.1, d.1)

pub value_parts : (value : BoundedValue) → is_value value ≡ true → (value.lower ≤ value.upper) × (value.upper ≤ 999)
value_parts value h =
    let b = and_parts (is_name value.name) (are_bounds value.lower value.upper) h in
    let c = and_parts (leb value.lower value.upper) (leb value.upper 999) b.1 in
    (leb-true value.lower value.upper c.0, leb-true value.upper 999 c.1)

-- ---- the places of values

place_at : (categories : List Category) (values : List ℕ) → has_values categories values ≡ true →
    (length values ≡ length (bounds_of categories)) × ((c : ℕ) → c < length (bounds_of categories) → slice_index values c < length (get_or (bounds_of categories) c []))
place_at [] [] h = (refl, λ c l. absurd (omega arith))
place_at [] (place ∷ places) h = absurd (false≢true h)
place_at (category ∷ categories) [] h = absurd (false≢true h)
place_at (category ∷ categories) (place ∷ places) h =
    let parts = and_parts (ltb place (length category.values)) (has_values categories places) h in
    let rest = place_at categories places parts.1 in
    let here = ltb-true place (length category.values) parts.0 in
    let count = length-map category.values bound_of in
    (omega (arith, rest.0), each here count rest.1)
  where
    each : place < length category.values → length (map bound_of category.values) ≡ length category.values →
        ((c : ℕ) → c < length (bounds_of categories) → slice_index places c < length (get_or (bounds_of categories) c [])) →
        (c : ℕ) → c < length (bounds_of (category ∷ categories)) → slice_index (place ∷ places) c < length (get_or (bounds_of (category ∷ categories)) c [])
    each here count rest zero l = omega arith
    each here count rest (suc c) l = rest c (omega arith)

-- ---- the limits of classes

many_from_each : (f : Class → ℕ) (xs : List Class) → AllByRecursion (λ class. 1 ≤ f class) xs → length xs ≤ total f xs
many_from_each f [] h = omega arith
many_from_each f (x ∷ xs) h = let here = h.0 in omega (arith, many_from_each f xs h.1)

module _ (pool : Pool) (alike : ℕ → ℕ → Bool) (is_pool : IsPool pool) (makes : MakesClasses pool alike) where
  abbrev many : ℕ
  many = length pool.volunteers

  -- if P holds of `class_by alike pool l` for each volunteer `l`, it holds of each class of the pool
  of_leaders : (P : Class → Type 0) → ((l : ℕ) → l < many → P (class_by alike pool l)) → AllByRecursion P (classes_by alike pool).classes
  of_leaders P f =
      each_mapped P (class_by alike pool) (leaders alike many)
      (each_filter (λ l. P (class_by alike pool l)) (λ i. not (list_any (λ j. alike j i) (range_with_len 0 i))) (range_with_len 0 many)
      (each_range (λ l. not (list_any (λ j. alike j l) (range_with_len 0 l)) ≡ true → P (class_by alike pool l)) 0 many (λ l from below leads. f l (omega arith))))

  some_member : (l : ℕ) → l < many → 1 ≤ length (class_of alike many l)
  some_member l below =
      let itself = makes.same.itself l in
      let before = rank_below (alike l) l many below in
      let one = rw itself at before in
      omega (arith, one, length-filter-total (alike l) (range_with_len 0 many))

  at_most : (s : Standing) (size : ℕ) → most_taken s size ≤ size
  at_most Open size = le_of_eq refl
  at_most Seated size = le_of_eq refl
  at_most Gone size = omega arith

  each_some : AllByRecursion (λ class. 1 ≤ length class.members) (classes_by alike pool).classes
  each_some = of_leaders (λ class. 1 ≤ length class.members) some_member

  few_in_all : sum_by (λ class. length class.members) (classes_by alike pool).classes ≤ 4000
  few_in_all = let n = members_in_all pool alike makes in let few = leb-true many (most_volunteers Large) is_pool.few_volunteers in omega arith

  values_at : (l : ℕ) → l < many → has_values pool.categories (volunteer pool.volunteers l).values ≡ true
  values_at l below = All-from_recursion (λ v. has_values pool.categories v.values ≡ true) pool.volunteers (each_from_list_all (λ v. has_values pool.categories v.values) pool.volunteers is_pool.values) l
      (record { id = []; values = []; standing = Gone; household = None }) below

  pub limits_kept : KeepsLimits (classes_by alike pool)
  limits_kept =
      let size = and_parts (leb 1 pool.size) (leb pool.size (most_members Large)) is_pool.size in
      let categories = each_map (λ category. is_category category ≡ true) (λ category. (length category.values ≤ 50) × (list_all is_value category.values ≡ true)) category_parts pool.categories
      (each_from_list_all is_category pool.categories is_pool.categories) in
      let few = leb-true (length pool.categories) 20 is_pool.few_categories in
      record {
        size = (leb-true 1 pool.size size.0, leb-true pool.size (most_members Large) size.1);
        few_categories = omega (arith, length-map pool.categories (λ category. map bound_of category.values));
        few_values = All-from_recursion (λ values. length values ≤ 50) (bounds_of pool.categories)
            (each_mapped (λ values. length values ≤ 50) (λ category. map bound_of category.values) pool.categories
            (each_map (λ category. (length category.values ≤ 50) × (list_all is_value category.values ≡ true)) (λ category. length (map bound_of category.values) ≤ 50)
            (λ category parts. omega (arith, parts.0, length-map category.values bound_of)) pool.categories categories));
        bounds = All-from_recursion (λ values. All InRange values) (bounds_of pool.categories)
            (each_mapped (λ values. All InRange values) (λ category. map bound_of category.values) pool.categories
            (each_map (λ category. (length category.values ≤ 50) × (list_all is_value category.values ≡ true)) (λ category. All InRange (map bound_of category.values))
            (λ category parts. All-from_recursion InRange (map bound_of category.values) (each_mapped InRange bound_of category.values
            (each_map (λ value. is_value value ≡ true) (λ value. InRange (bound_of value)) value_parts category.values (each_from_list_all is_value category.values parts.1)))) pool.categories categories));
        few_classes = omega (arith, few_in_all, many_from_each (λ class. length class.members) (classes_by alike pool).classes each_some, sum_by-is-total (λ class. length class.members) (classes_by alike pool).classes);
        few_members = few_in_all;
        members = All-from_recursion (λ class. 1 ≤ length class.members) (classes_by alike pool).classes each_some;
        most = All-from_recursion (λ class. class.most ≤ length class.members) (classes_by alike pool).classes
            (of_leaders (λ class. class.most ≤ length class.members) (λ l below. at_most (volunteer pool.volunteers l).standing (length (class_of alike many l))));
        searchable = classes_in_order pool alike;
        values = All-from_recursion (HasPlaces (bounds_of pool.categories)) (classes_by alike pool).classes
            (of_leaders (HasPlaces (bounds_of pool.categories)) (λ l below. let places = place_at pool.categories (volunteer pool.volunteers l).values (values_at l below) in record { one_each = places.0; within = places.1 }));
        households = All-from_recursion (λ class. IsKnownHousehold (volunteer_count (classes_by alike pool)) class.household) (classes_by alike pool).classes
            (of_leaders (λ class. IsKnownHousehold (volunteer_count (classes_by alike pool)) class.household) (λ l below. known l (shared_household pool.volunteers l) refl));
      }
    where
      known : (l : ℕ) (number : Option ℕ) → shared_household pool.volunteers l ≡ number → IsKnownHousehold (volunteer_count (classes_by alike pool)) number
      known l None e = tt
      known l (Some h) e = let all = members_in_all pool alike makes in let below = number_below pool.volunteers l h e in omega arith
