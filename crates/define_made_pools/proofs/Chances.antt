-- The least and the greatest number of a list are in it, unless it is empty. No number of the list is less than the least or greater than
-- the greatest.
use Rattle.std.proofs.Common.{◌≡◌, ℕ, zero, suc, ◌<◌, ◌≤◌, min, max, List, [], ◌∷◌, length, get_or, All, Contains, fold, refl, sym, ◌∙◌, arith, ⊎_elim, ◌⊎◌}
use Rattle.std.specs.List.{AllByRecursion}
use Rattle.std.proofs.lemmas.List.Elements.{All-from_recursion}
use Rattle.define_made_pools.specs.Summary.{least, greatest}

-- if each step picks one of two numbers, the number at the end is one of the list
one_is_kept : (pick : ℕ → ℕ → ℕ) → ((x y : ℕ) → (pick x y ≡ x) ⊎ (pick x y ≡ y)) → (x : ℕ) (xs : List ℕ) (d : ℕ) →
    (k : ℕ) × (k < suc (length xs)) × (get_or (x ∷ xs) k d ≡ fold pick x xs)
one_is_kept pick keeps x [] d = (0, omega arith, refl)
one_is_kept pick keeps x (y ∷ ys) d = place (one_is_kept pick keeps (pick x y) ys d)
  where
    place : ((k : ℕ) × (k < suc (length ys)) × (get_or (pick x y ∷ ys) k d ≡ fold pick (pick x y) ys)) →
        (k : ℕ) × (k < suc (suc (length ys))) × (get_or (x ∷ (y ∷ ys)) k d ≡ fold pick (pick x y) ys)
    place (zero, less, e) = ⊎_elim (λ (f : pick x y ≡ x). (0, omega arith, sym f ∙ e)) (λ (f : pick x y ≡ y). (1, omega arith, sym f ∙ e)) (keeps x y)
    place (suc k, less, e) = (suc (suc k), omega arith, e)

min_keeps : (x y : ℕ) → (min x y ≡ x) ⊎ (min x y ≡ y)
min_keeps x y = grind arith

max_keeps : (x y : ℕ) → (max x y ≡ x) ⊎ (max x y ≡ y)
max_keeps x y = grind arith

pub least_is_one : (xs : List ℕ) → 1 ≤ length xs → Contains xs (least xs)
least_is_one [] some = absurd (omega arith)
least_is_one (x ∷ xs) some = one_is_kept min min_keeps x xs (fold min x xs)

pub greatest_is_one : (xs : List ℕ) → 1 ≤ length xs → Contains xs (greatest xs)
greatest_is_one [] some = absurd (omega arith)
greatest_is_one (x ∷ xs) some = one_is_kept max max_keeps x xs (fold max x xs)

least_bound : (x : ℕ) (xs : List ℕ) → (fold min x xs ≤ x) × AllByRecursion (λ y. fold min x xs ≤ y) xs
least_bound x [] = (omega arith, tt)
least_bound x (y ∷ ys) =
    let rest = least_bound (min x y) ys in
    let bound = rest.0 in (omega arith, (omega arith, rest.1))

greatest_bound : (x : ℕ) (xs : List ℕ) → (x ≤ fold max x xs) × AllByRecursion (λ y. y ≤ fold max x xs) xs
greatest_bound x [] = (omega arith, tt)
greatest_bound x (y ∷ ys) =
    let rest = greatest_bound (max x y) ys in
    let bound = rest.0 in (omega arith, (omega arith, rest.1))

pub none_is_less : (xs : List ℕ) → All (λ x. least xs ≤ x) xs
none_is_less [] = All-from_recursion (λ x. 0 ≤ x) [] tt
none_is_less (x ∷ xs) = All-from_recursion (λ y. fold min x xs ≤ y) (x ∷ xs) (least_bound x xs)

pub none_is_greater : (xs : List ℕ) → All (λ x. x ≤ greatest xs) xs
none_is_greater [] = All-from_recursion (λ x. x ≤ 0) [] tt
none_is_greater (x ∷ xs) = All-from_recursion (λ y. y ≤ fold max x xs) (x ∷ xs) (greatest_bound x xs)
