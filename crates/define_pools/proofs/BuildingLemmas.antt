-- If a step of building has no fault, the result is a pool again.
use Rattle.std.proofs.Common.{◌≡◌, ℕ, zero, suc, ◌+◌, ◌<◌, ◌≤◌, Bool, true, false, cond, eqb, ltb, leb, not, ◌&&◌, ◌||◌, List, [], ◌∷◌, ◌++◌, length, Option, Some, None, option_map, unwrap_or, refl, sym, ap, ◌∙◌, arith, add-one, get_or}
use Rattle.std.specs.List.{list_all}
use Rattle.std.specs.Str.{is_utf8, bytes_eq}
use Rattle.std.proofs.lemmas.Bool.{cond_both, false≢true, and_parts, and_from, or_parts, or_from, not-true, not-false, not_from_false, ltb-false, leb-false, leb-true, eqb-true, eqb-false, eq-eqb, le-leb, lt-leb, lt-ltb}
use Rattle.std.proofs.lemmas.Bool.Decides.{same_from_decides}
use Rattle.std.proofs.lemmas.Slice.Eq.{bytes_eq-Decides}
use Rattle.std.proofs.lemmas.List.{length_push, map_push, nil_from_length}
use Rattle.std.proofs.lemmas.List.Folds.{list_any-append}
use Rattle.define_pools.specs.declared.Limits.{Limits}
use Rattle.define_pools.specs.declared.Limits.TheVariants.{Usual, Large}
use Rattle.define_pools.specs.declared.Standing.{Standing}
use Rattle.define_pools.specs.declared.Standing.TheVariants.{Open}
pub use Rattle.define_pools.proofs.Each.{list_all-push as list_all_push}
use Rattle.define_pools.proofs.Each.{list_all-push}
use Rattle.define_pools.specs.Lists.{includes_list, all_different}
use Rattle.define_pools.specs.Pool.{BoundedValue, Category, Volunteer, Pool, limits_for, most_members, most_volunteers, keeps_name_limits, is_name, is_size, are_bounds, is_value, is_category, has_values, is_household, IsPool}
use Rattle.define_pools.specs.Building.{category_names, value_names, ids, last_values, with_value, place_of, places_of, are_known, empty_pool, size_kind, category_added, category_kind, value_added, value_kind, volunteer_added, volunteer_kind, with_standing, standing_set, with_household, household_set, household_kind}

-- If `if test then Some kind else rest` is None, `test` is false and `rest` is None.
pub no_kind : (test : Bool) (kind : ℕ) (rest : Option ℕ) → cond test (Some kind) rest ≡ None → (test ≡ false) × (rest ≡ None)
no_kind true kind rest h = cc
no_kind false kind rest h = (refl, h)

pub same_bytes_comm : (xs ys : List ℕ) → bytes_eq xs ys ≡ bytes_eq ys xs
same_bytes_comm xs ys =
    let there = bytes_eq-Decides ys xs in
    same_from_decides (bytes_eq xs ys) (bytes_eq ys xs) (bytes_eq-Decides xs ys) (λ e. sym (there.0 e), λ e. there.1 (sym e))

-- If the lists `xss` are all different and `xs` isn't among them, they are all different with `xs` appended.
pub all_different_push : (xss : List (List ℕ)) (xs : List ℕ) → all_different xss ≡ true → includes_list xss xs ≡ false → all_different (xss ++ xs ∷ []) ≡ true
all_different_push [] xs h k = refl
all_different_push (ys ∷ yss) xs h k =
    let parts = and_parts (not (includes_list yss ys)) (all_different yss) h in
    let apart = or_parts (bytes_eq xs ys) (includes_list yss xs) k in
    let other : bytes_eq ys xs ≡ false = same_bytes_comm ys xs ∙ apart.0 in
    let none : includes_list (yss ++ xs ∷ []) ys ≡ false = list_any-append (bytes_eq ys) yss (xs ∷ []) ∙ or_from (includes_list yss ys) (bytes_eq ys xs || false) (not-true (includes_list yss ys) parts.0) (or_from (bytes_eq ys xs) false other refl) in
    and_from (not (includes_list (yss ++ xs ∷ []) ys)) (all_different (yss ++ xs ∷ [])) (not_from_false (includes_list (yss ++ xs ∷ []) ys) none) (all_different_push yss xs parts.1 apart.1)

-- Kind 10 applies if the name breaks the limits or `count` is at least `limit`. If it doesn't apply, the name keeps the limits and `count`
-- is below `limit`.
limits_and_room : (name : List ℕ) (limit count : ℕ) → (not (keeps_name_limits name) || leb limit count) ≡ false → (keeps_name_limits name ≡ true) × (count < limit)
limits_and_room name limit count h =
    let parts = or_parts (not (keeps_name_limits name)) (leb limit count) h in
    (not-false (keeps_name_limits name) parts.0, leb-false limit count parts.1)

-- all limits are at most those of every pool
pub members_are_few : (limits : Limits) → most_members limits ≤ most_members Large
members_are_few Usual = omega arith
members_are_few Large = omega arith

pub volunteers_are_few : (limits : Limits) → most_volunteers limits ≤ most_volunteers Large
volunteers_are_few Usual = omega arith
volunteers_are_few Large = omega arith

-- as many volunteers as a pool can have are within the limits for them
pub within_limits_for : (volunteers : ℕ) → volunteers ≤ most_volunteers Large → volunteers ≤ most_volunteers (limits_for volunteers)
within_limits_for volunteers few =
    cond_both (leb volunteers (most_volunteers Usual)) Usual Large (λ limits. volunteers ≤ most_volunteers limits) (λ usual. leb-true volunteers (most_volunteers Usual) usual) (λ _. few)

-- a size within any limits is a size within those of every pool
pub is_size_of_pool : (limits : Limits) (size : ℕ) → is_size limits size ≡ true → is_size Large size ≡ true
is_size_of_pool limits size h =
    let parts = and_parts (leb 1 size) (leb size (most_members limits)) h in
    let most = leb-true size (most_members limits) parts.1 in
    and_from (leb 1 size) (leb size (most_members Large)) parts.0 (le-leb size (most_members Large) (omega (arith, most, members_are_few limits)))

-- If the size has no fault, the empty pool of this size is a pool.
pub IsPool-empty_pool : (limits : Limits) (size : ℕ) → size_kind limits size ≡ None → IsPool (empty_pool size)
IsPool-empty_pool limits size h = record {
  size = is_size_of_pool limits size (not-false (is_size limits size) (no_kind _ _ _ h).0);
  few_categories = refl;
  categories = refl;
  different_categories = refl;
  few_volunteers = refl;
  ids = refl;
  different_ids = refl;
  values = refl;
  households = refl;
}

-- the properties of a category without a fault
pub record CategoryFits (pool : Pool) (name : List ℕ) : Type 0 where
  pub nobody : pool.volunteers ≡ []
  pub new : includes_list (category_names pool.categories) name ≡ false
  pub limits : keeps_name_limits name ≡ true
  pub room : length pool.categories < 20

pub category_fits : (pool : Pool) (name : List ℕ) → category_kind pool name ≡ None → CategoryFits pool name
category_fits pool name h =
    let first = no_kind _ _ _ h in
    let second = no_kind _ _ _ first.1 in
    let third = no_kind _ _ _ second.1 in
    let last = limits_and_room name 20 (length pool.categories) third.0 in
    let none = ltb-false 0 (length pool.volunteers) first.0 in
    record { nobody = nil_from_length pool.volunteers (omega arith); new = second.0; limits = last.0; room = last.1 }

pub IsPool-category_added : (pool : Pool) (name : List ℕ) → IsPool pool → category_kind pool name ≡ None → is_utf8 name ≡ true → IsPool (category_added pool name)
IsPool-category_added pool name p kind utf8 =
    let fits = category_fits pool name kind in
    let category : Category = record { name = name; values = [] } in
    let named = and_from (keeps_name_limits name) (is_utf8 name) fits.limits utf8 in
    let right = and_from (is_name name && true && true) true (and_from (is_name name && true) true (and_from (is_name name) true named refl) refl) refl in
    record {
      size = p.size;
      few_categories = le-leb (length (pool.categories ++ category ∷ [])) 20 (omega (arith, length_push pool.categories category, fits.room));
      categories = list_all-push is_category pool.categories category p.categories right;
      different_categories = rw (map_push (λ (c : Category). c.name) pool.categories category) (all_different_push (category_names pool.categories) name p.different_categories fits.new);
      few_volunteers = p.few_volunteers;
      ids = p.ids;
      different_ids = p.different_ids;
      values = rw fits.nobody refl;
      households = p.households;
    }

-- Adding a value to the last category doesn't change the number of categories.
length-with_value : (categories : List Category) (value : BoundedValue) → length (with_value categories value) ≡ length categories
length-with_value [] value = refl
length-with_value (category ∷ []) value = refl
length-with_value (category ∷ (next ∷ later)) value = ap suc (length-with_value (next ∷ later) value)

-- Adding a value to the last category doesn't change the categories' names.
category_names-with_value : (categories : List Category) (value : BoundedValue) → category_names (with_value categories value) ≡ category_names categories
category_names-with_value [] value = refl
category_names-with_value (category ∷ []) value = refl
category_names-with_value (category ∷ (next ∷ later)) value = ap (λ names. category.name ∷ names) (category_names-with_value (next ∷ later) value)

-- If a category has room and gets a value of a new name, it is a category again.
is_category_push : (category : Category) (value : BoundedValue) → is_category category ≡ true → is_value value ≡ true → includes_list (value_names category.values) value.name ≡ false → length category.values < 50 →
    is_category (record category { values = category.values ++ value ∷ [] }) ≡ true
is_category_push category value h good new room =
    let A = is_name category.name in let B = leb (length category.values) 50 in let C = all_different (value_names category.values) in let D = list_all is_value category.values in
    let d = and_parts (A && B && C) D h in let c = and_parts (A && B) C d.0 in let b = and_parts A B c.0 in
    let values = category.values ++ value ∷ [] in
    let few = le-leb (length values) 50 (omega (arith, length_push category.values value, room)) in
    let apart : all_different (value_names values) ≡ true = rw (map_push (λ (v : BoundedValue). v.name) category.values value) (all_different_push (value_names category.values) value.name c.1 new) in
    and_from (A && leb (length values) 50 && all_different (value_names values)) (list_all is_value values)
    (and_from (A && leb (length values) 50) (all_different (value_names values)) (and_from A (leb (length values) 50) b.0 few) apart)
    (list_all-push is_value category.values value d.1 good)

categories_with_value : (categories : List Category) (value : BoundedValue) → list_all is_category categories ≡ true → is_value value ≡ true → includes_list (value_names (last_values categories)) value.name ≡ false → length (last_values categories) < 50 →
    list_all is_category (with_value categories value) ≡ true
categories_with_value [] value h good new room = refl
categories_with_value (category ∷ []) value h good new room =
    let parts = and_parts (is_category category) true h in
    and_from (is_category (record category { values = category.values ++ value ∷ [] })) true (is_category_push category value parts.0 good new room) refl
categories_with_value (category ∷ (next ∷ later)) value h good new room =
    let parts = and_parts (is_category category) (list_all is_category (next ∷ later)) h in
    and_from (is_category category) (list_all is_category (with_value (next ∷ later) value)) parts.0 (categories_with_value (next ∷ later) value parts.1 good new room)

-- the properties of a value without a fault
pub record ValueFits (pool : Pool) (value : BoundedValue) : Type 0 where
  pub some : 0 < length pool.categories
  pub nobody : pool.volunteers ≡ []
  pub new : includes_list (value_names (last_values pool.categories)) value.name ≡ false
  pub bounds : are_bounds value.lower value.upper ≡ true
  pub limits : keeps_name_limits value.name ≡ true
  pub room : length (last_values pool.categories) < 50

pub value_fits : (pool : Pool) (value : BoundedValue) → value_kind pool value ≡ None → ValueFits pool value
value_fits pool value h =
    let first = no_kind _ _ _ h in
    let second = no_kind _ _ _ first.1 in
    let third = no_kind _ _ _ second.1 in
    let fourth = no_kind _ _ _ third.1 in
    let last = limits_and_room value.name 50 (length (last_values pool.categories)) fourth.0 in
    let place = or_parts (eqb (length pool.categories) 0) (ltb 0 (length pool.volunteers)) first.0 in
    let none = ltb-false 0 (length pool.volunteers) place.1 in
    record {
      some = not_zero (length pool.categories) place.0;
      nobody = nil_from_length pool.volunteers (omega arith);
      new = second.0;
      bounds = not-false (are_bounds value.lower value.upper) third.0;
      limits = last.0;
      room = last.1;
    }
  where
    not_zero : (n : ℕ) → eqb n 0 ≡ false → 0 < n
    not_zero n e = grind (arith, eqb-false)

pub IsPool-value_added : (pool : Pool) (value : BoundedValue) → IsPool pool → value_kind pool value ≡ None → is_utf8 value.name ≡ true → IsPool (value_added pool value)
IsPool-value_added pool value p kind utf8 =
    let fits = value_fits pool value kind in
    let named = and_from (keeps_name_limits value.name) (is_utf8 value.name) fits.limits utf8 in
    record {
      size = p.size;
      few_categories = rw (length-with_value pool.categories value) p.few_categories;
      categories = categories_with_value pool.categories value p.categories (and_from (is_name value.name) (are_bounds value.lower value.upper) named fits.bounds) fits.new fits.room;
      different_categories = rw (category_names-with_value pool.categories value) p.different_categories;
      few_volunteers = p.few_volunteers;
      ids = p.ids;
      different_ids = p.different_ids;
      values = rw fits.nobody refl;
      households = p.households;
    }

-- If a value of `values` has the name `name`, `place_of` returns the place of a value with this name.
pub place_at : (values : List BoundedValue) (name : List ℕ) → includes_list (value_names values) name ≡ true →
    (place : ℕ) × (place_of values name ≡ Some place) × (place < length values) × (get_or (value_names values) place [] ≡ name)
place_at [] name h = absurd (false≢true h)
place_at (value ∷ values) name h =
    (elim (bytes_eq name value.name) as (λ b. bytes_eq name value.name ≡ b → (b || includes_list (value_names values) name) ≡ true →
    (place : ℕ) × (cond b (Some 0) (option_map (λ p. p + 1) (place_of values name)) ≡ Some place) × (place < suc (length values)) × (get_or (value_names (value ∷ values)) place [] ≡ name)) [
      | true ↦ λ e k. (0, refl, omega arith, sym ((bytes_eq-Decides name value.name).0 e))
      | false ↦ λ e k.
          let rest = place_at values name k in
          (suc rest.0, ap (option_map (λ p. p + 1)) rest.1 ∙ ap Some (add-one rest.0), let l = rest.2 in omega arith, rest.3)
    ]) refl h

-- If each name is that of a value of its category, and there is one name per category, the places of the names are places of values.
has_values_places : (categories : List Category) (names : List (List ℕ)) → are_known categories names ≡ true → length names ≡ length categories → has_values categories (places_of categories names) ≡ true
has_values_places [] names h k = refl
has_values_places (category ∷ categories) [] h k = absurd (omega arith)
has_values_places (category ∷ categories) (name ∷ names) h k =
    let parts = and_parts (includes_list (value_names category.values) name) (are_known categories names) h in
    let found = place_at category.values name parts.0 in
    let here : ltb (unwrap_or (place_of category.values name) 0) (length category.values) ≡ true = rw found.1 (lt-ltb found.0 (length category.values) found.2) in
    and_from (ltb (unwrap_or (place_of category.values name) 0) (length category.values)) (has_values categories (places_of categories names)) here (has_values_places categories names parts.1 (omega arith))

-- the properties of a volunteer without a fault
pub record VolunteerFits (limit : Limits) (pool : Pool) (id : List ℕ) (names : List (List ℕ)) : Type 0 where
  pub known : are_known pool.categories names ≡ true
  pub each : length names ≡ length pool.categories
  pub new : includes_list (ids pool.volunteers) id ≡ false
  pub limits : keeps_name_limits id ≡ true
  pub room : length pool.volunteers < most_volunteers limit

pub volunteer_fits : (limits : Limits) (pool : Pool) (id : List ℕ) (names : List (List ℕ)) → volunteer_kind limits pool id names ≡ None → VolunteerFits limits pool id names
volunteer_fits limits pool id names h =
    let first = no_kind _ _ _ h in
    let second = no_kind _ _ _ first.1 in
    let third = no_kind _ _ _ second.1 in
    let fourth = no_kind _ _ _ third.1 in
    let last = limits_and_room id (most_volunteers limits) (length pool.volunteers) fourth.0 in
    record {
      known = not-false (are_known pool.categories names) first.0;
      each = eqb-true (length names) (length pool.categories) (not-false (eqb (length names) (length pool.categories)) second.0);
      new = third.0;
      limits = last.0;
      room = last.1;
    }

-- a volunteer without a fault within any limits has none within those of every pool
pub none_in_large : (limits : Limits) (pool : Pool) (id : List ℕ) (names : List (List ℕ)) → volunteer_kind limits pool id names ≡ None → volunteer_kind Large pool id names ≡ None
none_in_large limits pool id names h =
    let fits = volunteer_fits limits pool id names h in
    let each : eqb (length names) (length pool.categories) ≡ true = eq-eqb (length names) (length pool.categories) fits.each in
    let room : leb (most_volunteers Large) (length pool.volunteers) ≡ false =
    lt-leb (most_volunteers Large) (length pool.volunteers) (omega (arith, fits.room, volunteers_are_few limits)) in
    rw (fits.known, each, fits.new, fits.limits, room) refl

pub IsPool-volunteer_added : (limits : Limits) (pool : Pool) (id : List ℕ) (names : List (List ℕ)) → IsPool pool → volunteer_kind limits pool id names ≡ None → is_utf8 id ≡ true →
    IsPool (volunteer_added pool id names)
IsPool-volunteer_added limits pool id names p kind utf8 =
    let fits = volunteer_fits limits pool id names kind in
    let volunteer : Volunteer = record { id = id; values = places_of pool.categories names; standing = Open; household = None } in
    record {
      size = p.size;
      few_categories = p.few_categories;
      categories = p.categories;
      different_categories = p.different_categories;
      few_volunteers = le-leb (length (pool.volunteers ++ volunteer ∷ [])) (most_volunteers Large) (omega (arith, length_push pool.volunteers volunteer, fits.room, volunteers_are_few limits));
      ids = list_all-push (λ (v : Volunteer). is_name v.id) pool.volunteers volunteer p.ids (and_from (keeps_name_limits id) (is_utf8 id) fits.limits utf8);
      different_ids = rw (map_push (λ (v : Volunteer). v.id) pool.volunteers volunteer) (all_different_push (ids pool.volunteers) id p.different_ids fits.new);
      values = list_all-push (λ (v : Volunteer). has_values pool.categories v.values) pool.volunteers volunteer p.values (has_values_places pool.categories names fits.known fits.each);
      households = list_all-push (λ (v : Volunteer). is_household v.household) pool.volunteers volunteer p.households refl;
    }

-- ---- setting a volunteer's standing changes nothing else

-- Setting a volunteer's standing doesn't change the number of volunteers.
pub length-with_standing : (volunteers : List Volunteer) (number : ℕ) (standing : Standing) → length (with_standing volunteers number standing) ≡ length volunteers
length-with_standing [] number standing = refl
length-with_standing (volunteer ∷ volunteers) zero standing = refl
length-with_standing (volunteer ∷ volunteers) (suc number) standing = ap suc (length-with_standing volunteers number standing)

pub ids-with_standing : (volunteers : List Volunteer) (number : ℕ) (standing : Standing) → ids (with_standing volunteers number standing) ≡ ids volunteers
ids-with_standing [] number standing = refl
ids-with_standing (volunteer ∷ volunteers) zero standing = refl
ids-with_standing (volunteer ∷ volunteers) (suc number) standing = ap (λ rest. volunteer.id ∷ rest) (ids-with_standing volunteers number standing)

names-with_standing : (volunteers : List Volunteer) (number : ℕ) (standing : Standing) →
    list_all (λ (v : Volunteer). is_name v.id) (with_standing volunteers number standing) ≡ list_all (λ (v : Volunteer). is_name v.id) volunteers
names-with_standing [] number standing = refl
names-with_standing (volunteer ∷ volunteers) zero standing = refl
names-with_standing (volunteer ∷ volunteers) (suc number) standing = ap (λ b. is_name volunteer.id && b) (names-with_standing volunteers number standing)

values-with_standing : (categories : List Category) (volunteers : List Volunteer) (number : ℕ) (standing : Standing) →
    list_all (λ (v : Volunteer). has_values categories v.values) (with_standing volunteers number standing) ≡ list_all (λ (v : Volunteer). has_values categories v.values) volunteers
values-with_standing categories [] number standing = refl
values-with_standing categories (volunteer ∷ volunteers) zero standing = refl
values-with_standing categories (volunteer ∷ volunteers) (suc number) standing =
    ap (λ b. has_values categories volunteer.values && b) (values-with_standing categories volunteers number standing)

households-with_standing : (volunteers : List Volunteer) (number : ℕ) (standing : Standing) →
    list_all (λ (v : Volunteer). is_household v.household) (with_standing volunteers number standing) ≡ list_all (λ (v : Volunteer). is_household v.household) volunteers
households-with_standing [] number standing = refl
households-with_standing (volunteer ∷ volunteers) zero standing = refl
households-with_standing (volunteer ∷ volunteers) (suc number) standing = ap (λ b. is_household volunteer.household && b) (households-with_standing volunteers number standing)

pub IsPool-standing_set : (pool : Pool) (number : ℕ) (standing : Standing) → IsPool pool → IsPool (standing_set pool number standing)
IsPool-standing_set pool number standing p = record {
  size = p.size;
  few_categories = p.few_categories;
  categories = p.categories;
  different_categories = p.different_categories;
  few_volunteers = rw (length-with_standing pool.volunteers number standing) p.few_volunteers;
  ids = rw (names-with_standing pool.volunteers number standing) p.ids;
  different_ids = rw (ids-with_standing pool.volunteers number standing) p.different_ids;
  values = rw (values-with_standing pool.categories pool.volunteers number standing) p.values;
  households = rw (households-with_standing pool.volunteers number standing) p.households;
}

-- ---- setting a volunteer's household changes nothing else

-- Setting a volunteer's household doesn't change the number of volunteers.
pub length-with_household : (volunteers : List Volunteer) (number : ℕ) (name : List ℕ) → length (with_household volunteers number name) ≡ length volunteers
length-with_household [] number name = refl
length-with_household (volunteer ∷ volunteers) zero name = refl
length-with_household (volunteer ∷ volunteers) (suc number) name = ap suc (length-with_household volunteers number name)

ids-with_household : (volunteers : List Volunteer) (number : ℕ) (name : List ℕ) → ids (with_household volunteers number name) ≡ ids volunteers
ids-with_household [] number name = refl
ids-with_household (volunteer ∷ volunteers) zero name = refl
ids-with_household (volunteer ∷ volunteers) (suc number) name = ap (λ rest. volunteer.id ∷ rest) (ids-with_household volunteers number name)

names-with_household : (volunteers : List Volunteer) (number : ℕ) (name : List ℕ) →
    list_all (λ (v : Volunteer). is_name v.id) (with_household volunteers number name) ≡ list_all (λ (v : Volunteer). is_name v.id) volunteers
names-with_household [] number name = refl
names-with_household (volunteer ∷ volunteers) zero name = refl
names-with_household (volunteer ∷ volunteers) (suc number) name = ap (λ b. is_name volunteer.id && b) (names-with_household volunteers number name)

values-with_household : (categories : List Category) (volunteers : List Volunteer) (number : ℕ) (name : List ℕ) →
    list_all (λ (v : Volunteer). has_values categories v.values) (with_household volunteers number name) ≡ list_all (λ (v : Volunteer). has_values categories v.values) volunteers
values-with_household categories [] number name = refl
values-with_household categories (volunteer ∷ volunteers) zero name = refl
values-with_household categories (volunteer ∷ volunteers) (suc number) name =
    ap (λ b. has_values categories volunteer.values && b) (values-with_household categories volunteers number name)

households-with_household : (volunteers : List Volunteer) (number : ℕ) (name : List ℕ) → list_all (λ (v : Volunteer). is_household v.household) volunteers ≡ true → is_name name ≡ true →
    list_all (λ (v : Volunteer). is_household v.household) (with_household volunteers number name) ≡ true
households-with_household [] number name h named = refl
households-with_household (volunteer ∷ volunteers) zero name h named =
    let parts = and_parts (is_household volunteer.household) (list_all (λ (v : Volunteer). is_household v.household) volunteers) h in
    and_from (is_name name) (list_all (λ (v : Volunteer). is_household v.household) volunteers) named parts.1
households-with_household (volunteer ∷ volunteers) (suc number) name h named =
    let parts = and_parts (is_household volunteer.household) (list_all (λ (v : Volunteer). is_household v.household) volunteers) h in
    and_from (is_household volunteer.household) (list_all (λ (v : Volunteer). is_household v.household) (with_household volunteers number name)) parts.0
    (households-with_household volunteers number name parts.1 named)

pub IsPool-household_set : (pool : Pool) (number : ℕ) (name : List ℕ) → IsPool pool → household_kind name ≡ None → is_utf8 name ≡ true → IsPool (household_set pool number name)
IsPool-household_set pool number name p kind utf8 =
    let limits = not-false (keeps_name_limits name) (no_kind _ _ _ kind).0 in
    record {
      size = p.size;
      few_categories = p.few_categories;
      categories = p.categories;
      different_categories = p.different_categories;
      few_volunteers = rw (length-with_household pool.volunteers number name) p.few_volunteers;
      ids = rw (names-with_household pool.volunteers number name) p.ids;
      different_ids = rw (ids-with_household pool.volunteers number name) p.different_ids;
      values = rw (values-with_household pool.categories pool.volunteers number name) p.values;
      households = households-with_household pool.volunteers number name p.households (and_from (keeps_name_limits name) (is_utf8 name) limits utf8);
    }
