-- `pointwise`, which tests two lists element by element from the front, holds exactly if they have the same length and the test of the
-- elements holds at each place.
use Rattle.std.proofs.Common.{◌≡◌, ℕ, suc, Bool, false, ◌&&◌, ◌==◌, List, [], ◌∷◌, length, refl, ap, ◌∙◌}
use Rattle.std.specs.List.{list_all, zip}
use Rattle.std.specs.Cmp.Lexicographic.{pointwise}
use Rattle.std.specs.Str.{bytes_eq}
use Rattle.std.proofs.Math.Bool.{and-false}
use Rattle.define_pools.specs.Building.{value_names}
use Rattle.define_pools.specs.Pool.{BoundedValue, Category}
use Rattle.define_offices.specs.Tables.{same_names, same_rules, same_shape, same_values}

pub one_length : {X : Type 0} (same : X → X → Bool) (xs ys : List X) → length xs ≡ length ys → list_all (λ (p : X × X). same p.0 p.1) (zip xs ys) ≡ pointwise same xs ys
one_length same [] [] e = refl
one_length same [] (y ∷ ys) e = absurd cc
one_length same (x ∷ xs) [] e = absurd cc
one_length same (x ∷ xs) (y ∷ ys) e = ap (λ b. same x y && b) (one_length same xs ys (let e' : suc (length xs) ≡ suc (length ys) = e in cc))

pub other_length : {X : Type 0} (same : X → X → Bool) (xs ys : List X) → (length xs ≡ length ys → ⊥) → pointwise same xs ys ≡ false
other_length same [] [] n = absurd (n refl)
other_length same [] (y ∷ ys) n = refl
other_length same (x ∷ xs) [] n = refl
other_length same (x ∷ xs) (y ∷ ys) n = ap (λ b. same x y && b) (other_length same xs ys (λ e. n (ap suc e))) ∙ and-false (same x y)

-- ---- the tests of the definitions

abbrev pub same_value : BoundedValue → BoundedValue → Bool
same_value one other = bytes_eq one.name other.name && (one.lower == other.lower) && (one.upper == other.upper)

pub values_by : (one other : List BoundedValue) → same_values one other ≡ pointwise same_value one other
values_by [] [] = refl
values_by [] (y ∷ ys) = refl
values_by (x ∷ xs) [] = refl
values_by (x ∷ xs) (y ∷ ys) = ap (λ b. same_value x y && b) (values_by xs ys)

abbrev pub same_category : Category → Category → Bool
same_category one other = bytes_eq one.name other.name && same_values one.values other.values

pub rules_by : (one other : List Category) → same_rules one other ≡ pointwise same_category one other
rules_by [] [] = refl
rules_by [] (y ∷ ys) = refl
rules_by (x ∷ xs) [] = refl
rules_by (x ∷ xs) (y ∷ ys) = ap (λ b. same_category x y && b) (rules_by xs ys)

abbrev pub same_names_of : Category → Category → Bool
same_names_of one other = bytes_eq one.name other.name && same_names (value_names one.values) (value_names other.values)

pub shape_by : (one other : List Category) → same_shape one other ≡ pointwise same_names_of one other
shape_by [] [] = refl
shape_by [] (y ∷ ys) = refl
shape_by (x ∷ xs) [] = refl
shape_by (x ∷ xs) (y ∷ ys) = ap (λ b. same_names_of x y && b) (shape_by xs ys)

pub names_by : (names others : List (List ℕ)) → same_names names others ≡ pointwise bytes_eq names others
names_by [] [] = refl
names_by [] (y ∷ ys) = refl
names_by (x ∷ xs) [] = refl
names_by (x ∷ xs) (y ∷ ys) = ap (λ b. bytes_eq x y && b) (names_by xs ys)

abbrev pub same_value_name : BoundedValue → BoundedValue → Bool
same_value_name one other = bytes_eq one.name other.name

pub value_names_by : (one other : List BoundedValue) → same_names (value_names one) (value_names other) ≡ pointwise same_value_name one other
value_names_by [] [] = refl
value_names_by [] (y ∷ ys) = refl
value_names_by (x ∷ xs) [] = refl
value_names_by (x ∷ xs) (y ∷ ys) = ap (λ b. same_value_name x y && b) (value_names_by xs ys)
