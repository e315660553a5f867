-- Laws on `total`, which is the sum of a function's values as signed whole numbers, defined by recursion.
use Rattle.std.proofs.Common.{◌≡◌, ℕ, zero, suc, ◌+◌, ◌<◌, ◌≤◌, Bool, true, false, cond, ◌||◌, eqb, ltb, List, [], ◌∷◌, count_by, ℤ, pos, ◌+ℤ◌, ◌*ℤ◌, ◌≤ℤ◌, refl, sym, ap, ap₂, ◌∙◌, arith, true≢false}
use Rattle.std.specs.List.{fold, list_all, AllByRecursion, range_with_len}
use Rattle.std.proofs.lemmas.Bool.{and_parts, eqb-true, ne_eqb, eq-eqb, ltb-true}
use Rattle.std.proofs.lemmas.Int.{ints}
use Rattle.define_pools.proofs.Integers.{mul-add, mul-zero}
use Rattle.define_pools.proofs.Sums as naturals
use Rattle.define_pools.specs.Lists.{includes, is_increasing}
use Rattle.define_pools.proofs.Weights.{not_held}
use Rattle.define_proofs.specs.Constraints.{signed_sum}

-- the sum of a function's values
abbrev pub total : {X : Type 0} → (X → ℤ) → List X → ℤ
total f [] = pos 0
total f (x ∷ xs) = f x +ℤ total f xs

sum_onto : {X : Type 0} (f : X → ℤ) (a : ℤ) (xs : List X) → fold (λ sum x. sum +ℤ f x) a xs ≡ a +ℤ total f xs
sum_onto f a [] = omega (arith, ints)
sum_onto f a (x ∷ xs) = sum_onto f (a +ℤ f x) xs ∙ (let e : (a +ℤ f x) +ℤ total f xs ≡ a +ℤ (f x +ℤ total f xs) = omega (arith, ints) in e)

pub sum-is-total : {X : Type 0} (f : X → ℤ) (xs : List X) → signed_sum f xs ≡ total f xs
sum-is-total f xs = sum_onto f (pos 0) xs ∙ (let e : pos 0 +ℤ total f xs ≡ total f xs = omega (arith, ints) in e)

pub total_le : {X : Type 0} (f g : X → ℤ) (xs : List X) → AllByRecursion (λ x. f x ≤ℤ g x) xs → total f xs ≤ℤ total g xs
total_le f g [] h = omega (arith, ints)
total_le f g (x ∷ xs) h = let here = h.0 in let rest = total_le f g xs h.1 in omega (arith, ints)

pub total_eq : {X : Type 0} (f g : X → ℤ) (xs : List X) → AllByRecursion (λ x. f x ≡ g x) xs → total f xs ≡ total g xs
total_eq f g [] h = refl
total_eq f g (x ∷ xs) h = ap₂ (λ a b. a +ℤ b) h.0 (total_eq f g xs h.1)

pub total_ext : {X : Type 0} (f g : X → ℤ) → ((x : X) → f x ≡ g x) → (xs : List X) → total f xs ≡ total g xs
total_ext f g e [] = refl
total_ext f g e (x ∷ xs) = ap₂ (λ a b. a +ℤ b) (e x) (total_ext f g e xs)

pub total-add : {X : Type 0} (f g : X → ℤ) (xs : List X) → total (λ x. f x +ℤ g x) xs ≡ total f xs +ℤ total g xs
total-add f g [] = refl
total-add f g (x ∷ xs) = let rest = total-add f g xs in omega (arith, ints)

pub total-scaled : {X : Type 0} (k : ℤ) (f : X → ℤ) (xs : List X) → total (λ x. k *ℤ f x) xs ≡ k *ℤ total f xs
total-scaled k f [] = sym (mul-zero k)
total-scaled k f (x ∷ xs) = ap (λ z. k *ℤ f x +ℤ z) (total-scaled k f xs) ∙ sym (mul-add k (f x) (total f xs))

pub total-zero : {X : Type 0} (f : X → ℤ) → ((x : X) → f x ≡ pos 0) → (xs : List X) → total f xs ≡ pos 0
total-zero f e [] = refl
total-zero f e (x ∷ xs) = ap₂ (λ a b. a +ℤ b) (e x) (total-zero f e xs)

-- a double sum is the same whether it goes over `xs` or over `ys` first
pub exchanged : {X Y : Type 0} (f : X → Y → ℤ) (xs : List X) (ys : List Y) → total (λ x. total (f x) ys) xs ≡ total (λ y. total (λ x. f x y) xs) ys
exchanged f [] ys = sym (total-zero (λ y. pos 0) (λ y. refl) ys)
exchanged f (x ∷ xs) ys = ap (λ z. total (f x) ys +ℤ z) (exchanged f xs ys) ∙ sym (total-add (f x) (λ y. total (λ x. f x y) xs) ys)

-- if each element that passes `p` adds 1, and each other one 0, the sum is the number of elements that pass
ones : {X : Type 0} (p : X → Bool) (xs : List X) → total (λ x. cond (p x) (pos 1) (pos 0)) xs ≡ pos (naturals.total (λ x. naturals.one_if (p x)) xs)
ones p [] = refl
ones p (x ∷ xs) =
    let rest = ones p xs in
    elim (p x) as (λ b. cond b (pos 1) (pos 0) +ℤ total (λ x. cond (p x) (pos 1) (pos 0)) xs ≡ pos (naturals.one_if b + naturals.total (λ x. naturals.one_if (p x)) xs)) [
      | true ↦ omega (arith, ints, rest)
      | false ↦ omega (arith, ints, rest)
    ]

pub total-ones : {X : Type 0} (p : X → Bool) (xs : List X) → total (λ x. cond (p x) (pos 1) (pos 0)) xs ≡ pos (count_by p xs)
total-ones p xs = ones p xs ∙ ap pos (sym (naturals.count_by-total p xs))

-- ---- a sum over a panel, as a sum over everybody

no_member : (f : ℕ → ℤ) (x first count : ℕ) → x < first → total (λ i. cond (eqb x i) (f i) (pos 0)) (range_with_len first count) ≡ pos 0
no_member f x first zero h = refl
no_member f x first (suc count) h =
    let rest = no_member f x (first + 1) count (omega arith) in
    let e : eqb x first ≡ false = ne_eqb x first (λ e. omega arith) in rw e (omega (arith, ints, rest))

one_member : (f : ℕ → ℤ) (x first count : ℕ) → first ≤ x → x < first + count → total (λ i. cond (eqb x i) (f i) (pos 0)) (range_with_len first count) ≡ f x
one_member f x first zero h k = absurd (omega arith)
one_member f x first (suc count) h k =
    (elim (eqb x first) as (λ b. eqb x first ≡ b → cond b (f first) (pos 0) +ℤ total (λ i. cond (eqb x i) (f i) (pos 0)) (range_with_len (first + 1) count) ≡ f x) [
      | true ↦ λ e. let same : x ≡ first = eqb-true x first e in
          let none = no_member f x (first + 1) count (omega arith) in
          let here : f first ≡ f x = ap f (sym same) in omega (arith, ints, none, here)
      | false ↦ λ e. let apart : (x ≡ first → ⊥) = λ s. true≢false (sym (eq-eqb x first s) ∙ e) in
          let later = one_member f x (first + 1) count (omega arith) (omega arith) in omega (arith, ints, later)
    ]) refl

either : (b c : Bool) (v : ℤ) → (b ≡ true → c ≡ false) → cond (b || c) v (pos 0) ≡ cond b v (pos 0) +ℤ cond c v (pos 0)
either true c v h = let e = h refl in rw e (omega (arith, ints))
either false c v h = omega (arith, ints)

pub total-panel : (f : ℕ → ℤ) (count : ℕ) (panel : List ℕ) → is_increasing panel ≡ true → list_all (λ i. ltb i count) panel ≡ true →
    total f panel ≡ total (λ i. cond (includes panel i) (f i) (pos 0)) (range_with_len 0 count)
total-panel f count [] up below = sym (total-zero (λ i. pos 0) (λ i. refl) (range_with_len 0 count))
total-panel f count (x ∷ xs) up below =
    let ups = and_parts (list_all (λ y. ltb x y) xs) (is_increasing xs) up in
    let belows = and_parts (ltb x count) (list_all (λ i. ltb i count) xs) below in
    let lt = ltb-true x count belows.0 in
    let everybody = range_with_len 0 count in
    let not_twice = not_held x xs ups.0 in
    let split = total_ext (λ i. cond (eqb x i || includes xs i) (f i) (pos 0)) (λ i. cond (eqb x i) (f i) (pos 0) +ℤ cond (includes xs i) (f i) (pos 0))
    (λ i. either (eqb x i) (includes xs i) (f i) (λ e. ap (includes xs) (sym (eqb-true x i e)) ∙ not_twice)) everybody in
    ap₂ (λ a b. a +ℤ b) (sym (one_member f x 0 count (omega arith) (omega arith))) (total-panel f count xs ups.1 belows.1)
    ∙ sym (split ∙ total-add (λ i. cond (eqb x i) (f i) (pos 0)) (λ i. cond (includes xs i) (f i) (pos 0)) everybody)
