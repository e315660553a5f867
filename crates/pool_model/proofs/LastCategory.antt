-- The last category is the one at place length - 1, where code changes it.
use Rattle.std.proofs.Common.{◌≡◌, ℕ, zero, suc, ◌-◌, List, [], ◌∷◌, ◌++◌, length, get_or, set, Some, refl, ap, arith}
use Rattle.std.specs.List.{slice_get}
use Rattle.define_pools.specs.Pool.{BoundedValue, Category}
use Rattle.define_pools.specs.Building.{last_values, with_value}

last_values_at : (n : ℕ) (categories : List Category) (category : Category) → length categories ≡ suc n → Some category ≡ slice_get categories n → last_values categories ≡ category.values
last_values_at n [] category e h = absurd (omega arith)
last_values_at zero (first ∷ []) category e h = cc
last_values_at zero (first ∷ (next ∷ later)) category e h = absurd (omega arith)
last_values_at (suc n) (first ∷ []) category e h = absurd (omega arith)
last_values_at (suc n) (first ∷ (next ∷ later)) category e h = last_values_at n (next ∷ later) category (omega arith) h

pub with_value_at : (n : ℕ) (categories : List Category) (value : BoundedValue) (d : Category) → length categories ≡ suc n →
    set categories n (record { name = (get_or categories n d).name; values = (get_or categories n d).values ++ value ∷ [] }) ≡ with_value categories value
with_value_at n [] value d e = absurd (omega arith)
with_value_at zero (first ∷ []) value d e = refl
with_value_at zero (first ∷ (next ∷ later)) value d e = absurd (omega arith)
with_value_at (suc n) (first ∷ []) value d e = absurd (omega arith)
with_value_at (suc n) (first ∷ (next ∷ later)) value d e = ap (λ rest. first ∷ rest) (with_value_at n (next ∷ later) value d (omega arith))

pub last_values-from_slice_get : (categories : List Category) (category : Category) → Some category ≡ slice_get categories (length categories - 1) → last_values categories ≡ category.values
last_values-from_slice_get [] category h = cc
last_values-from_slice_get (first ∷ later) category h =
    let e : suc (length later) - 1 ≡ length later = omega arith in last_values_at (length later) (first ∷ later) category refl (rw e at h)
