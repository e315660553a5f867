-- Tests of names and their places, computed over the list of categories zipped with the list of names.
use Rattle.std.proofs.Common.{◌≡◌, ℕ, suc, ◌+◌, Bool, true, false, cond, ltb, not, ◌&&◌, ◌||◌, List, [], ◌∷◌, map, length, Some, None, option_map, unwrap_or, Bor, refl, ap, arith, position}
use Rattle.std.specs.List.{list_all, list_any, zip, position_or_len}
use Rattle.std.specs.Str.{bytes_eq}
use Rattle.std.proofs.lemmas.Bool.{lt-ltb}
use Rattle.define_pools.proofs.Tests.{ltb-more}
use Rattle.define_pools.specs.Lists.{includes_list}
use Rattle.define_pools.specs.Pool.{BoundedValue, Category}
use Rattle.define_pools.specs.Building.{value_names, place_of, places_of, are_known}

pub list_any-map : {X Y : Type 0} (p : Y → Bool) (f : X → Y) (xs : List X) → list_any p (map f xs) ≡ list_any (λ x. p (f x)) xs
list_any-map p f [] = refl
list_any-map p f (x ∷ xs) = ap (λ b. p (f x) || b) (list_any-map p f xs)

-- true if the name is that of a value of its category
abbrev pub knows : Category × Bor (List ℕ) → Bool
knows pair = includes_list (value_names pair.0.values) pair.1.now

pub are_known-zip : (categories : List Category) (names : List (Bor (List ℕ))) → are_known categories (map (λ name. name.now) names) ≡ list_all knows (zip categories names)
are_known-zip [] names = refl
are_known-zip (category ∷ categories) [] = refl
are_known-zip (category ∷ categories) (name ∷ names) = ap (λ b. includes_list (value_names category.values) name.now && b) (are_known-zip categories names)

-- true if the name, which isn't borrowed, is that of a value of its category
abbrev pub has_name : Category × List ℕ → Bool
has_name pair = includes_list (value_names pair.0.values) pair.1

pub are_named-zip : (categories : List Category) (names : List (List ℕ)) → are_known categories names ≡ list_all has_name (zip categories names)
are_named-zip [] names = refl
are_named-zip (category ∷ categories) [] = refl
are_named-zip (category ∷ categories) (name ∷ names) = ap (λ b. includes_list (value_names category.values) name && b) (are_named-zip categories names)

-- the place of the value of this name in its category, or 0 if there is none
abbrev pub place_beside : Category × Bor (List ℕ) → ℕ
place_beside pair = unwrap_or (place_of pair.0.values pair.1.now) 0

pub places_of-zip : (categories : List Category) (names : List (Bor (List ℕ))) → places_of categories (map (λ name. name.now) names) ≡ map place_beside (zip categories names)
places_of-zip [] names = refl
places_of-zip (category ∷ categories) [] = refl
places_of-zip (category ∷ categories) (name ∷ names) = ap (λ places. unwrap_or (place_of category.values name.now) 0 ∷ places) (places_of-zip categories names)

-- with one more value before it, the place of a value is greater by 1
shifted : (b : Bool) (n : ℕ) → option_map (λ p. p + 1) (cond b (Some n) None) ≡ cond b (Some (1 + n)) None
shifted true n = let e : n + 1 ≡ 1 + n = omega arith in ap Some e
shifted false n = refl

pub place_of-is_position : (values : List BoundedValue) (name : List ℕ) → place_of values name ≡ position (λ value. bytes_eq name value.name) values
place_of-is_position [] name = refl
place_of-is_position (value ∷ values) name =
    (elim (bytes_eq name value.name) as (λ b. cond b (Some 0) (option_map (λ p. p + 1) (place_of values name)) ≡ (let n = cond (not b) (1 + position_or_len (λ (v : BoundedValue). bytes_eq name v.name) values) 0 in cond (ltb n (suc (length values))) (Some n) None)) [
      | true ↦ rw (lt-ltb 0 (suc (length values)) (omega arith)) refl
      | false ↦
          let n = position_or_len (λ (v : BoundedValue). bytes_eq name v.name) values in
          rw (place_of-is_position values name, shifted (ltb n (length values)) n, ltb-more n (length values)) refl
    ])
