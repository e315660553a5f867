-- A pool that is built by adding categories that pass `is_category`, one by one, and their values, one by one.
use Rattle.std.proofs.Common.{◌≡◌, ℕ, zero, suc, ◌+◌, ◌≤◌, ◌<◌, true, false, eqb, leb, not, ◌&&◌, ◌||◌, List, [], ◌∷◌, ◌++◌, map, length, length-append, get_or, take, drop, None, refl, sym, ap, ◌∙◌, arith}
use Rattle.std.specs.List.{list_all, list_any}
use Rattle.std.specs.Str.{bytes_eq, is_utf8}
use Rattle.std.proofs.lemmas.Bool.{and_parts, or_parts, ne_eqb, lt-leb, leb-true, not-true}
use Rattle.std.proofs.lemmas.List.{length-take, map-append, take_more}
use Rattle.std.proofs.lemmas.List.Folds.{list_any-append}
use Rattle.define_pools.proofs.Each.{passes_at}
use Rattle.define_pools.specs.Lists.{includes_list, all_different}
use Rattle.define_pools.specs.Pool.{BoundedValue, Category, Pool, is_name, is_value, is_category, are_bounds, keeps_name_limits}
use Rattle.define_pools.specs.Building.{category_kind, category_names, last_values, value_added, value_kind, value_names, with_value}
use Rattle.define_pools.proofs.BuildingLemmas.{category_fits, same_bytes_comm}

-- if names are all different, no name is among those before it
new_among : (before : List (List ℕ)) (name : List ℕ) (later : List (List ℕ)) → all_different (before ++ name ∷ later) ≡ true → includes_list before name ≡ false
new_among [] name later h = refl
new_among (first ∷ before) name later h =
    let parts = and_parts (not (includes_list (before ++ name ∷ later) first)) (all_different (before ++ name ∷ later)) h in
    let none = sym (list_any-append (bytes_eq first) before (name ∷ later)) ∙ not-true (includes_list (before ++ name ∷ later) first) parts.0 in
    let behind = or_parts (list_any (bytes_eq first) before) (bytes_eq first name || list_any (bytes_eq first) later) none in
    let here = or_parts (bytes_eq first name) (list_any (bytes_eq first) later) behind.1 in
    let other = same_bytes_comm name first ∙ here.0 in
    let rest = new_among before name later parts.1 in rw (other, rest) refl

-- a list is its elements before a place, the element at the place, and those after it
parted : {X : Type 0} (xs : List X) (i : ℕ) (d : X) → i < length xs → take i xs ++ get_or xs i d ∷ drop (suc i) xs ≡ xs
parted [] i d h = absurd (omega arith)
parted (x ∷ xs) zero d h = refl
parted (x ∷ xs) (suc i) d h = ap (λ rest. x ∷ rest) (parted xs i d (omega arith))

-- if all elements of a list have different names, the name at a place is none of those before it
new_at : {X : Type 0} (f : X → List ℕ) (xs : List X) (i : ℕ) (d : X) → all_different (map f xs) ≡ true → i < length xs → includes_list (map f (take i xs)) (f (get_or xs i d)) ≡ false
new_at f xs i d h inside =
    let x = get_or xs i d in
    new_among (map f (take i xs)) (f x) (map f (drop (suc i) xs))
    (ap all_different (sym (map-append f (take i xs) (x ∷ drop (suc i) xs))) ∙ (ap (λ all. all_different (map f all)) (parted xs i d inside) ∙ h))

-- ---- a category that is added has no kind of fault

pub category_is_new : (size : ℕ) (categories : List Category) (i : ℕ) (d : Category) → length categories ≤ 20 → all_different (category_names categories) ≡ true → list_all is_category categories ≡ true → i < length categories →
    category_kind (record { size = size; categories = take i categories; volunteers = [] }) (get_or categories i d).name ≡ None
category_is_new size categories i d few different each inside =
    let name = (get_or categories i d).name in
    let new : includes_list (category_names (take i categories)) name ≡ false = new_at (λ (c : Category). c.name) categories i d different inside in
    let right = passes_at is_category categories i d each inside in
    let A = is_name name in let B = leb (length (get_or categories i d).values) 50 in
    let C = all_different (value_names (get_or categories i d).values) in let D = list_all is_value (get_or categories i d).values in
    let named = (and_parts A B (and_parts (A && B) C (and_parts (A && B && C) D right).0).0).0 in
    let limits = (and_parts (keeps_name_limits name) (is_utf8 name) named).0 in
    let few : leb 20 (length (take i categories)) ≡ false = lt-leb 20 (length (take i categories)) (omega (arith, length-take i categories)) in
    rw (new, limits, few) refl

-- ---- a value that is added has no kind of fault; the pool after it is added

last_values-push : (categories : List Category) (category : Category) → last_values (categories ++ category ∷ []) ≡ category.values
last_values-push [] category = refl
last_values-push (first ∷ []) category = refl
last_values-push (first ∷ next ∷ later) category = last_values-push (next ∷ later) category

pub with_value-push : (categories : List Category) (category : Category) (value : BoundedValue) →
    with_value (categories ++ category ∷ []) value ≡ categories ++ record { name = category.name; values = category.values ++ value ∷ [] } ∷ []
with_value-push [] category value = refl
with_value-push (first ∷ []) category value = refl
with_value-push (first ∷ next ∷ later) category value = ap (λ rest. first ∷ rest) (with_value-push (next ∷ later) category value)

-- the pool with one more category, which has the name of `category_of` and its first `i` values
abbrev pub with_values : Pool → Category → ℕ → Pool
with_values pool category_of i = record pool { categories = pool.categories ++ record { name = category_of.name; values = take i category_of.values } ∷ [] }

pub value_is_new : (pool : Pool) (category_of : Category) (i : ℕ) (d : BoundedValue) → category_kind pool category_of.name ≡ None → is_category category_of ≡ true → i < length category_of.values →
    value_kind (with_values pool category_of i) (get_or category_of.values i d) ≡ None
value_is_new pool category_of i d fresh right inside =
    let value = get_or category_of.values i d in
    let category : Category = record { name = category_of.name; values = take i category_of.values } in
    let A = is_name category_of.name in let B = leb (length category_of.values) 50 in let C = all_different (value_names category_of.values) in let D = list_all is_value category_of.values in
    let ds = and_parts (A && B && C) D right in let cs = and_parts (A && B) C ds.0 in let bs = and_parts A B cs.0 in
    let good = and_parts (is_name value.name) (are_bounds value.lower value.upper) (passes_at is_value category_of.values i d ds.1 inside) in
    let limits = (and_parts (keeps_name_limits value.name) (is_utf8 value.name) good.0).0 in
    let new : includes_list (value_names (take i category_of.values)) value.name ≡ false = new_at (λ (v : BoundedValue). v.name) category_of.values i d cs.1 inside in
    let last = last_values-push pool.categories category in
    let nobody = (category_fits pool category_of.name fresh).nobody in
    let some : eqb (length (pool.categories ++ category ∷ [])) 0 ≡ false = ne_eqb (length (pool.categories ++ category ∷ [])) 0 (λ e. omega (arith, length-append pool.categories (category ∷ []))) in
    let most = leb-true (length category_of.values) 50 bs.1 in
    let few : leb 50 (length (take i category_of.values)) ≡ false = lt-leb 50 (length (take i category_of.values)) (omega (arith, length-take i category_of.values)) in
    rw (some, nobody, last, new, good.1, limits, few) refl

-- adding value `i` to the pool with the first `i` values of the category gives the pool with the first `i + 1`
pub values_grow : (pool : Pool) (category_of : Category) (i : ℕ) (d : BoundedValue) → i < length category_of.values →
    value_added (with_values pool category_of i) (get_or category_of.values i d) ≡ with_values pool category_of (i + 1)
values_grow pool category_of i d inside =
    let category : Category = record { name = category_of.name; values = take i category_of.values } in
    ap (λ categories. record pool { categories = categories }) (with_value-push pool.categories category (get_or category_of.values i d)
    ∙ ap (λ values. pool.categories ++ record { name = category_of.name; values = values } ∷ []) (sym (take_more category_of.values i d inside)))
