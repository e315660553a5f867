-- A list is increasing exactly if each number is below the next one, which is what code tests.
use Rattle.std.proofs.Common.{◌≡◌, ℕ, suc, zero, ◌+◌, ◌<◌, true, ltb, List, [], ◌∷◌, ◌&&◌, arith, refl}
use Rattle.std.specs.List.{list_all}
use Rattle.std.specs.List.Sorted.{IsStrictlyIncreasing}
use Rattle.std.proofs.lemmas.Bool.{lt-ltb, ltb-true, and_from, and_parts}
use Rattle.define_pools.specs.Lists.{is_increasing}

all_above : (x y : ℕ) (ys : List ℕ) → x < y → list_all (λ z. ltb y z) ys ≡ true → list_all (λ z. ltb x z) ys ≡ true
all_above x y [] h k = refl
all_above x y (z ∷ ys) h k =
    let parts = and_parts (ltb y z) (list_all (λ z. ltb y z) ys) k in
    let l = ltb-true y z parts.0 in and_from (ltb x z) (list_all (λ z. ltb x z) ys) (lt-ltb x z (omega arith)) (all_above x y ys h parts.1)

pub is_increasing-from_neighbours : (xs : List ℕ) → IsStrictlyIncreasing xs → is_increasing xs ≡ true
is_increasing-from_neighbours [] h = refl
is_increasing-from_neighbours (x ∷ []) h = refl
is_increasing-from_neighbours (x ∷ (y ∷ ys)) h =
    let later : IsStrictlyIncreasing (y ∷ ys) = λ k l. let e : suc k + 1 ≡ suc (k + 1) = omega arith in rw e at (h (suc k) (omega arith)) in
    let rest = is_increasing-from_neighbours (y ∷ ys) later in
    let here : x < y = h 0 (omega arith) in
    let parts = and_parts (list_all (λ z. ltb y z) ys) (is_increasing ys) rest in
    and_from (ltb x y && list_all (λ z. ltb x z) ys) (is_increasing (y ∷ ys)) (and_from (ltb x y) (list_all (λ z. ltb x z) ys) (lt-ltb x y here) (all_above x y ys here parts.0)) rest

pub neighbours-from_is_increasing : (xs : List ℕ) → is_increasing xs ≡ true → IsStrictlyIncreasing xs
neighbours-from_is_increasing [] h k l = absurd (omega arith)
neighbours-from_is_increasing (x ∷ []) h k l = absurd (omega arith)
neighbours-from_is_increasing (x ∷ (y ∷ ys)) h zero l =
    let parts = and_parts (ltb x y && list_all (λ z. ltb x z) ys) (is_increasing (y ∷ ys)) h in
    ltb-true x y (and_parts (ltb x y) (list_all (λ z. ltb x z) ys) parts.0).0
neighbours-from_is_increasing (x ∷ (y ∷ ys)) h (suc k) l =
    let parts = and_parts (ltb x y && list_all (λ z. ltb x z) ys) (is_increasing (y ∷ ys)) h in
    let e : suc k + 1 ≡ suc (k + 1) = omega arith in
    rw e (neighbours-from_is_increasing (y ∷ ys) parts.1 k (omega arith))
