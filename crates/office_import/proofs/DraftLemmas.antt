-- Categories while they are read, and the pool that is made of them.
use Rattle.std.proofs.Common.{◌≡◌, ℕ, zero, suc, ◌<◌, Bool, true, false, cond, ◌&&◌, ◌||◌, List, [], ◌∷◌, ◌++◌, map, length, get_or, set, Some, None, refl, ap, arith}
use Rattle.std.specs.List.{find, list_all, list_any, position}
use Rattle.std.specs.Str.{bytes_eq}
use Rattle.std.proofs.lemmas.List.Quantifiers.{position-Some}
use Rattle.define_pools.specs.Pool.{BoundedValue, Category}
use Rattle.define_imports.specs.Rules.{Rule, values_of, with_rule}
use Rattle.office_import.specs.Seen.{with_value_at}

-- ---- tests of mapped lists

pub list_any-map : {X Y : Type 0} (p : Y → Bool) (f : X → Y) (xs : List X) → list_any p (map f xs) ≡ list_any (λ x. p (f x)) xs
list_any-map p f [] = refl
list_any-map p f (x ∷ xs) = ap (λ b. p (f x) || b) (list_any-map p f xs)

pub list_all-map : {X Y : Type 0} (p : Y → Bool) (f : X → Y) (xs : List X) → list_all p (map f xs) ≡ list_all (λ x. p (f x)) xs
list_all-map p f [] = refl
list_all-map p f (x ∷ xs) = ap (λ b. p (f x) && b) (list_all-map p f xs)

-- ---- a rule is added

-- if looking for a name finds a category, the values of this name are those of the category
pub values_found : (categories : List Category) (name : List ℕ) (category : Category) → find (λ (c : Category). bytes_eq name c.name) categories ≡ Some category → category.values ≡ values_of categories name
values_found [] name category h = cc
values_found (c ∷ cs) name category h =
    (elim (bytes_eq name c.name) as (λ b. cond b (Some c) (find (λ (c : Category). bytes_eq name c.name) cs) ≡ Some category → category.values ≡ cond b c.values (values_of cs name)) [
      | true ↦ λ k. same c category k
      | false ↦ λ k. values_found cs name category k
    ]) h
  where
    same : (x y : Category) → Some x ≡ Some y → y.values ≡ x.values
    same x y e = cc

pub values_not_found : (categories : List Category) (name : List ℕ) → find (λ (c : Category). bytes_eq name c.name) categories ≡ None → [] ≡ values_of categories name
values_not_found [] name h = refl
values_not_found (c ∷ cs) name h =
    (elim (bytes_eq name c.name) as (λ b. cond b (Some c) (find (λ (c : Category). bytes_eq name c.name) cs) ≡ None → [] ≡ cond b c.values (values_of cs name)) [
      | true ↦ λ k. absurd cc
      | false ↦ λ k. values_not_found cs name k
    ]) h

-- replacing the category at `place` by this category with the value appended gives what `with_value_at` defines
pub written : (categories : List Category) (place : ℕ) (value : BoundedValue) (d : Category) → place < length categories →
    set categories place (record (get_or categories place d) { values = (get_or categories place d).values ++ value ∷ [] }) ≡ with_value_at categories place value
written [] place value d h = absurd (omega arith)
written (c ∷ cs) zero value d h = refl
written (c ∷ cs) (suc place) value d h = ap (λ rest. c ∷ rest) (written cs place value d (omega arith))

-- the value is added to the first category with the rule's name
added_at : (categories : List Category) (rule : Rule) (place : ℕ) (d : Category) → place < length categories → bytes_eq rule.category (get_or categories place d).name ≡ true →
    ((k : ℕ) → k < place → bytes_eq rule.category (get_or categories k d).name ≡ false) → with_value_at categories place rule.value ≡ with_rule categories rule
added_at [] rule place d h good before = absurd (omega arith)
added_at (c ∷ cs) rule zero d h good before = rw good refl
added_at (c ∷ cs) rule (suc place) d h good before =
    let other : bytes_eq rule.category c.name ≡ false = before 0 (omega arith) in
    rw other (ap (λ rest. c ∷ rest) (added_at cs rule place d (omega arith) good (λ k below. before (suc k) (omega arith))))

pub added_in_place : (categories : List Category) (rule : Rule) (place : ℕ) (d : Category) → position (λ (c : Category). bytes_eq rule.category c.name) categories ≡ Some place →
    with_value_at categories place rule.value ≡ with_rule categories rule
added_in_place categories rule place d h =
    let first = position-Some (λ (c : Category). bytes_eq rule.category c.name) categories place d h in
    added_at categories rule place d first.0 first.1 first.2

-- a rule of a new category is appended
pub appended : (categories : List Category) (rule : Rule) (d : Category) → ((k : ℕ) → k < length categories → bytes_eq rule.category (get_or categories k d).name ≡ false) →
    categories ++ record { name = rule.category; values = rule.value ∷ [] } ∷ [] ≡ with_rule categories rule
appended [] rule d none = refl
appended (c ∷ cs) rule d none =
    let other : bytes_eq rule.category c.name ≡ false = none 0 (omega arith) in
    rw other (ap (λ rest. c ∷ rest) (appended cs rule d (λ k below. none (suc k) (omega arith))))
