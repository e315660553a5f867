-- Sums of a function's values over a list, by recursion.
use Rattle.std.proofs.Common.{◌≡◌, ℕ, ◌+◌, ◌*◌, ◌≤◌, Bool, true, false, cond, List, [], ◌∷◌, length, filter, sum_by, refl, sym, ap, arith}
use Rattle.std.specs.List.{AllByRecursion}
use Rattle.std.specs.Prelude.{count_by}
use Rattle.std.proofs.lemmas.List.Recursion.{is_sum_by}

-- the sum of f over a list
abbrev pub total : {X : Type 0} → (X → ℕ) → List X → ℕ
total f [] = 0
total f (x ∷ xs) = f x + total f xs

pub sum_by-is-total : {X : Type 0} (f : X → ℕ) (xs : List X) → sum_by f xs ≡ total f xs
sum_by-is-total f xs = sym (is_sum_by (total f) f refl (λ _ _. refl) xs)

pub total_le : {X : Type 0} (f g : X → ℕ) (xs : List X) → AllByRecursion (λ x. f x ≤ g x) xs → total f xs ≤ total g xs
total_le f g [] h = omega arith
total_le f g (x ∷ xs) h = omega (arith, total_le f g xs h.1)

-- if each term of f is at most that of g, and the sum of f is at least that of g, the terms are equal
pub total_same : {X : Type 0} (f g : X → ℕ) (xs : List X) → AllByRecursion (λ x. f x ≤ g x) xs → total g xs ≤ total f xs → AllByRecursion (λ x. f x ≡ g x) xs
total_same f g [] h k = tt
total_same f g (x ∷ xs) h k =
    let rest = total_le f g xs h.1 in (omega arith, total_same f g xs h.1 (omega arith))

pub total_eq : {X : Type 0} (f g : X → ℕ) (xs : List X) → AllByRecursion (λ x. f x ≡ g x) xs → total f xs ≡ total g xs
total_eq f g [] h = refl
total_eq f g (x ∷ xs) h = omega (arith, total_eq f g xs h.1)

pub total_ext : {X : Type 0} (f g : X → ℕ) → ((x : X) → f x ≡ g x) → (xs : List X) → total f xs ≡ total g xs
total_ext f g e [] = refl
total_ext f g e (x ∷ xs) = omega (arith, e x, total_ext f g e xs)

pub total-add : {X : Type 0} (f g : X → ℕ) (xs : List X) → total (λ x. f x + g x) xs ≡ total f xs + total g xs
total-add f g [] = refl
total-add f g (x ∷ xs) = omega (arith, total-add f g xs)

pub total-scaled : {X : Type 0} (f : X → ℕ) (k : ℕ) (xs : List X) → total (λ x. f x * k) xs ≡ total f xs * k
total-scaled f k [] = omega arith
total-scaled f k (x ∷ xs) = omega (arith, total-scaled f k xs)

pub total-zero : {X : Type 0} (f : X → ℕ) → ((x : X) → f x ≡ 0) → (xs : List X) → total f xs ≡ 0
total-zero f e [] = refl
total-zero f e (x ∷ xs) = omega (arith, e x, total-zero f e xs)

pub total-ones : {X : Type 0} (xs : List X) → total (λ x. 1) xs ≡ length xs
total-ones [] = refl
total-ones (x ∷ xs) = omega (arith, total-ones xs)

pub total-filter : {X : Type 0} (f : X → ℕ) (p : X → Bool) (xs : List X) → total f (filter p xs) ≡ total (λ x. cond (p x) (f x) 0) xs
total-filter f p [] = refl
total-filter f p (x ∷ xs) =
    let rest = total-filter f p xs in
    elim (p x) as (λ b. total f (cond b (x ∷ filter p xs) (filter p xs)) ≡ cond b (f x) 0 + total (λ x. cond (p x) (f x) 0) xs) [
      | true ↦ ap (λ z. f x + z) rest
      | false ↦ omega (arith, rest)
    ]

-- 1 if a test passes, else 0
abbrev pub one_if : Bool → ℕ
one_if b = cond b 1 0

-- the number of elements that pass a test is the sum over all elements of 1 if the element passes, else 0
pub length-filter-total : {X : Type 0} (p : X → Bool) (xs : List X) → length (filter p xs) ≡ total (λ x. one_if (p x)) xs
length-filter-total p [] = refl
length-filter-total p (x ∷ xs) =
    let rest = length-filter-total p xs in
    elim (p x) as (λ b. length (cond b (x ∷ filter p xs) (filter p xs)) ≡ one_if b + total (λ x. one_if (p x)) xs) [
      | true ↦ omega (arith, rest)
      | false ↦ omega (arith, rest)
    ]

pub count_by-total : {X : Type 0} (p : X → Bool) (xs : List X) → count_by p xs ≡ total (λ x. one_if (p x)) xs
count_by-total p xs = sum_by-is-total (λ x. one_if (p x)) xs
