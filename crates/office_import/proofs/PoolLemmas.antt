-- A pool to which allowed categories are added one by one, each value by value.
use Rattle.std.proofs.Common.{◌≡◌, ℕ, zero, suc, ◌+◌, ◌<◌, true, false, eqb, leb, not, ◌&&◌, ◌||◌, List, [], ◌∷◌, ◌++◌, map, length, length-append, get_or, take, drop, None, refl, sym, ap, ◌∙◌, arith}
use Rattle.std.specs.List.{list_all, list_any}
use Rattle.std.specs.Str.{bytes_eq, is_utf8}
use Rattle.std.proofs.lemmas.Bool.{and_parts, or_parts, ne_eqb, lt-leb, leb-true, not-true}
use Rattle.std.proofs.lemmas.List.{length-take, map-append, take_more}
use Rattle.std.proofs.lemmas.List.Folds.{list_any-append}
use Rattle.define_pools.proofs.Each.{passes_at}
use Rattle.define_pools.specs.Lists.{includes_list, all_different}
use Rattle.define_pools.specs.Pool.{BoundedValue, Category, Pool, is_name, is_value, is_category, are_bounds, keeps_name_limits}
use Rattle.define_pools.specs.Building.{category_kind, category_names, last_values, value_added, value_kind, value_names, with_value}
use Rattle.define_pools.proofs.BuildingLemmas.{category_fits, same_bytes_comm}
use Rattle.define_offices.specs.Facts.{AreRules}

-- if names are all different, no name is among those before it
new_among : (before : List (List ℕ)) (name : List ℕ) (later : List (List ℕ)) → all_different (before ++ name ∷ later) ≡ true → includes_list before name ≡ false
new_among [] name later h = refl
new_among (first ∷ before) name later h =
    let parts = and_parts (not (includes_list (before ++ name ∷ later) first)) (all_different (before ++ name ∷ later)) h in
    let none = sym (list_any-append (bytes_eq first) before (name ∷ later)) ∙ not-true (includes_list (before ++ name ∷ later) first) parts.0 in
    let behind = or_parts (list_any (bytes_eq first) before) (bytes_eq first name || list_any (bytes_eq first) later) none in
    let here = or_parts (bytes_eq first name) (list_any (bytes_eq first) later) behind.1 in
    let other = same_bytes_comm name first ∙ here.0 in
    let rest = new_among before name later parts.1 in rw (other, rest) refl

-- a list is its first `i` elements, the element at place `i`, and the rest
parted : {X : Type 0} (xs : List X) (i : ℕ) (d : X) → i < length xs → take i xs ++ get_or xs i d ∷ drop (suc i) xs ≡ xs
parted [] i d h = absurd (omega arith)
parted (x ∷ xs) zero d h = refl
parted (x ∷ xs) (suc i) d h = ap (λ rest. x ∷ rest) (parted xs i d (omega arith))

-- if all elements of a list have different names, the name at a place is none of those before it
new_at : {X : Type 0} (f : X → List ℕ) (xs : List X) (i : ℕ) (d : X) → all_different (map f xs) ≡ true → i < length xs → includes_list (map f (take i xs)) (f (get_or xs i d)) ≡ false
new_at f xs i d h inside =
    let x = get_or xs i d in
    new_among (map f (take i xs)) (f x) (map f (drop (suc i) xs))
    (ap all_different (sym (map-append f (take i xs) (x ∷ drop (suc i) xs))) ∙ (ap (λ all. all_different (map f all)) (parted xs i d inside) ∙ h))

-- ---- a category that is added

pub category_is_right : (categories : List Category) (i : ℕ) (d : Category) → AreRules categories → i < length categories → is_category (get_or categories i d) ≡ true
category_is_right categories i d rules inside = passes_at is_category categories i d rules.each inside

pub category_is_new : (categories : List Category) (i : ℕ) (d : Category) → AreRules categories → i < length categories →
    category_kind (record { size = 1; categories = take i categories; volunteers = [] }) (get_or categories i d).name ≡ None
category_is_new categories i d rules inside =
    let name = (get_or categories i d).name in
    let new : includes_list (category_names (take i categories)) name ≡ false = new_at (λ (c : Category). c.name) categories i d rules.different inside in
    let right = category_is_right categories i d rules inside in
    let A = is_name name in let B = leb (length (get_or categories i d).values) 50 in
    let C = all_different (value_names (get_or categories i d).values) in let D = list_all is_value (get_or categories i d).values in
    let named = (and_parts A B (and_parts (A && B) C (and_parts (A && B && C) D right).0).0).0 in
    let limits = (and_parts (keeps_name_limits name) (is_utf8 name) named).0 in
    let all = leb-true (length categories) 20 rules.few in
    let few : leb 20 (length (take i categories)) ≡ false = lt-leb 20 (length (take i categories)) (omega (arith, length-take i categories)) in
    rw (new, limits, few) refl

-- ---- a value that is added

last_values-push : (categories : List Category) (category : Category) → last_values (categories ++ category ∷ []) ≡ category.values
last_values-push [] category = refl
last_values-push (first ∷ []) category = refl
last_values-push (first ∷ next ∷ later) category = last_values-push (next ∷ later) category

pub with_value-push : (categories : List Category) (category : Category) (value : BoundedValue) →
    with_value (categories ++ category ∷ []) value ≡ categories ++ record { name = category.name; values = category.values ++ value ∷ [] } ∷ []
with_value-push [] category value = refl
with_value-push (first ∷ []) category value = refl
with_value-push (first ∷ next ∷ later) category value = ap (λ rest. first ∷ rest) (with_value-push (next ∷ later) category value)

-- the pool with one more category: `draft`, with its first `i` values alone
abbrev pub with_values : Pool → Category → ℕ → Pool
with_values pool draft i = record pool { categories = pool.categories ++ record { name = draft.name; values = take i draft.values } ∷ [] }

pub value_is_new : (pool : Pool) (draft : Category) (i : ℕ) (d : BoundedValue) → category_kind pool draft.name ≡ None → is_category draft ≡ true → i < length draft.values →
    value_kind (with_values pool draft i) (get_or draft.values i d) ≡ None
value_is_new pool draft i d fresh right inside =
    let value = get_or draft.values i d in
    let category : Category = record { name = draft.name; values = take i draft.values } in
    let A = is_name draft.name in let B = leb (length draft.values) 50 in let C = all_different (value_names draft.values) in let D = list_all is_value draft.values in
    let ds = and_parts (A && B && C) D right in let cs = and_parts (A && B) C ds.0 in let bs = and_parts A B cs.0 in
    let good = and_parts (is_name value.name) (are_bounds value.lower value.upper) (passes_at is_value draft.values i d ds.1 inside) in
    let limits = (and_parts (keeps_name_limits value.name) (is_utf8 value.name) good.0).0 in
    let new : includes_list (value_names (take i draft.values)) value.name ≡ false = new_at (λ (v : BoundedValue). v.name) draft.values i d cs.1 inside in
    let last = last_values-push pool.categories category in
    let nobody = (category_fits pool draft.name fresh).nobody in
    let some : eqb (length (pool.categories ++ category ∷ [])) 0 ≡ false = ne_eqb (length (pool.categories ++ category ∷ [])) 0 (λ e. omega (arith, length-append pool.categories (category ∷ []))) in
    let most = leb-true (length draft.values) 50 bs.1 in
    let few : leb 50 (length (take i draft.values)) ≡ false = lt-leb 50 (length (take i draft.values)) (omega (arith, length-take i draft.values)) in
    rw (some, nobody, last, new, good.1, limits, few) refl

-- adding value `i` to the pool with the first `i` values of the category gives the pool with the first `i + 1`
pub values_grow : (pool : Pool) (draft : Category) (i : ℕ) (d : BoundedValue) → i < length draft.values →
    value_added (with_values pool draft i) (get_or draft.values i d) ≡ with_values pool draft (i + 1)
values_grow pool draft i d inside =
    let category : Category = record { name = draft.name; values = take i draft.values } in
    ap (λ categories. record pool { categories = categories }) (with_value-push pool.categories category (get_or draft.values i d)
    ∙ ap (λ values. pool.categories ++ record { name = draft.name; values = values } ∷ []) (sym (take_more draft.values i d inside)))

-- a value whose name and bounds are those of value `i` is value `i`
pub next_value : (values items : List BoundedValue) (i : ℕ) (d : BoundedValue) (name : List ℕ) (lower upper : ℕ) → items ≡ values → d ≡ get_or items i d → name ≡ d.name → lower ≡ d.lower → upper ≡ d.upper →
    record { name = name; lower = lower; upper = upper } ≡ get_or values i d
next_value values items i d name lower upper same there n l u =
    ap (λ x. made x lower upper) n ∙ (ap (λ x. made d.name x upper) l ∙ (ap (λ x. made d.name d.lower x) u ∙ (there ∙ ap (λ (vs : List BoundedValue). get_or vs i d) same)))
  where
    made : List ℕ → ℕ → ℕ → BoundedValue
    made name lower upper = record { name = name; lower = lower; upper = upper }
