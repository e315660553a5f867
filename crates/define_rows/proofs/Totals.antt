-- Sums of integers over the numbers below a bound.
use Rattle.std.proofs.Common.{◌≡◌, ◌≢◌, ℕ, zero, suc, ◌+◌, ◌<◌, List, [], ◌∷◌, length, get_or, Option, Some, None, ℤ, pos, ◌+ℤ◌, ◌*ℤ◌, refl, sym, ap, ap₂, ◌∙◌, arith}
use Rattle.std.specs.Prelude.{sum_by, filter_map}
use Rattle.std.specs.List.{range_with_len, cons_option}
use Rattle.std.proofs.lemmas.Int.{ints}
use Rattle.std.proofs.lemmas.List.Sums.{sum_by-cons}
use Rattle.define_pools.proofs.Integers.{mul-add, mul-zero}
use Rattle.define_rows.specs.declared.Var.{Var}
use Rattle.define_rows.specs.Row.{Row}
use Rattle.define_rows.specs.Table.{Table, coefficient}
use Rattle.define_rows.specs.InOrder.{number_at, combination}
use Rattle.define_rows.proofs.Linear.{sum_of_coefficients}

-- the sum of f over the numbers below n
abbrev pub total : ℕ → (ℕ → ℤ) → ℤ
total zero f = pos 0
total (suc n) f = f 0 +ℤ total n (λ k. f (suc k))

pub total-none : (n : ℕ) (f : ℕ → ℤ) → ((k : ℕ) → k < n → f k ≡ pos 0) → total n f ≡ pos 0
total-none zero f h = refl
total-none (suc n) f h = omega (arith, ints, h 0 (omega arith), total-none n (λ k. f (suc k)) (λ k l. h (suc k) (omega arith)))

pub total-same : (n : ℕ) (f g : ℕ → ℤ) → ((k : ℕ) → k < n → f k ≡ g k) → total n f ≡ total n g
total-same zero f g h = refl
total-same (suc n) f g h = ap₂ (λ y z. y +ℤ z) (h 0 (omega arith)) (total-same n (λ k. f (suc k)) (λ k. g (suc k)) (λ k l. h (suc k) (omega arith)))

pub total-add : (n : ℕ) (f g : ℕ → ℤ) → total n (λ k. f k +ℤ g k) ≡ total n f +ℤ total n g
total-add zero f g = refl
total-add (suc n) f g = omega (arith, ints, total-add n (λ k. f (suc k)) (λ k. g (suc k)))

pub total-scaled : (n : ℕ) (a : ℤ) (f : ℕ → ℤ) → total n (λ k. a *ℤ f k) ≡ a *ℤ total n f
total-scaled zero a f = sym (mul-zero a)
total-scaled (suc n) a f = omega (arith, ints, total-scaled n a (λ k. f (suc k)), mul-add a (f 0) (total n (λ k. f (suc k))))

-- two nested sums can be exchanged
pub total-swap : (m n : ℕ) (f : ℕ → ℕ → ℤ) → total m (λ i. total n (f i)) ≡ total n (λ j. total m (λ i. f i j))
total-swap zero n f = sym (total-none n (λ j. pos 0) (λ k l. refl))
total-swap (suc m) n f = ap (λ z. total n (f 0) +ℤ z) (total-swap m n (λ i. f (suc i))) ∙ sym (total-add n (f 0) (λ j. total m (λ i. f (suc i) j)))

-- if only the term of i can be other than 0, the sum is this term
pub total-picks : (n i : ℕ) (f : ℕ → ℤ) → i < n → ((k : ℕ) → k < n → k ≢ i → f k ≡ pos 0) → total n f ≡ f i
total-picks zero i f l h = absurd (omega arith)
total-picks (suc n) zero f l h = omega (arith, ints, total-none n (λ k. f (suc k)) (λ k m. h (suc k) (omega arith) (λ e. omega (arith, e))))
total-picks (suc n) (suc i) f l h =
    omega (arith, ints, h 0 (omega arith) (λ e. omega (arith, e)), total-picks n i (λ k. f (suc k)) (omega arith) (λ k m o. h (suc k) (omega arith) (λ e. o (omega (arith, e)))))

-- a combination's number at `place` is the sum over the rows of factor times number
pub combination-total : (factors : ℕ → ℤ) (rows : List Row) (place : ℕ) → combination factors rows place ≡ total (length rows) (λ i. factors i *ℤ number_at (get_or rows i (record { b = pos 0; a = [] })) place)
combination-total factors [] place = refl
combination-total factors (row ∷ rows) place = ap (λ z. factors 0 *ℤ number_at row place +ℤ z) (combination-total (λ i. factors (suc i)) rows place)

-- `sum_of_coefficients` is the sum over the rows of factor times coefficient on v
pub coefficients-total : (table : Table) (v : Var) (factors : ℕ → ℤ) (rows : List Row) →
    sum_of_coefficients table v factors rows ≡ total (length rows) (λ i. factors i *ℤ coefficient table (get_or rows i (record { b = pos 0; a = [] })) v)
coefficients-total table v factors [] = refl
coefficients-total table v factors (row ∷ rows) = ap (λ z. factors 0 *ℤ coefficient table row v +ℤ z) (coefficients-total table v (λ i. factors (suc i)) rows)

-- f x for Some x, and 0 for None
abbrev pub amount : {X : Type 0} → (X → ℕ) → Option X → ℤ
amount f None = pos 0
amount f (Some x) = pos (f x)

sum_cons_option : {X : Type 0} (f : X → ℕ) (o : Option X) (xs : List X) → pos (sum_by f (cons_option o xs)) ≡ amount f o +ℤ pos (sum_by f xs)
sum_cons_option f None xs = omega (arith, ints)
sum_cons_option f (Some x) xs = omega (arith, ints, sum_by-cons f x xs)

filtered_from : {X : Type 0} (f : X → ℕ) (g : ℕ → Option X) (a n : ℕ) (at : ℕ → Option X) → ((k : ℕ) → at k ≡ g (a + k)) → pos (sum_by f (filter_map g (range_with_len a n))) ≡ total n (λ k. amount f (at k))
filtered_from f g a zero at e = refl
filtered_from f g a (suc n) at e =
    let here : a + 0 ≡ a = omega arith in
    sum_cons_option f (g a) (filter_map g (range_with_len (a + 1) n))
    ∙ ap₂ (λ y z. y +ℤ z) (ap (amount f) (sym (e 0 ∙ ap g here)))
    (filtered_from f g (a + 1) n (λ k. at (suc k)) (λ k. e (suc k) ∙ (let next : a + suc k ≡ (a + 1) + k = omega arith in ap g next)))

-- the sum of f over the filtered map of g on the numbers below n is the sum of `amount f (g k)` over each k below n
pub filtered-total : {X : Type 0} (f : X → ℕ) (g : ℕ → Option X) (n : ℕ) → pos (sum_by f (filter_map g (range_with_len 0 n))) ≡ total n (λ k. amount f (g k))
filtered-total f g n = filtered_from f g 0 n g (λ k. let e : k ≡ 0 + k = omega arith in ap g e)
