-- Laws of the greatest common divisor, of two numbers and of a list, and of the least common multiple of two numbers.
use Rattle.std.proofs.Common.{◌≡◌, ◌≢◌, ℕ, ℤ, zero, suc, pos, negsuc, neg_ℤ, unsigned_abs, ◌*◌, ◌/◌, ◌%◌, ◌<◌, ◌≤◌, max, Bool, true, false, List, [], ◌∷◌, map, refl, sym, ◌∙◌, ap, subst, inl, inr, ◌⊎◌, arith, zero-mul, eq-zero-or-pos}
use Rattle.std.specs.Prelude.{◌&&◌, if◌then◌else◌, int_div}
use Rattle.std.specs.Int.{IsGcd, ◌∣◌}
use Rattle.std.proofs.lemmas.Nat.Gcd.{IsGcd-from_zero, IsGcd-from_mod, IsGcd-swap, dvd_refl, dvd-zero, dvd_trans, dvd_of_mod-eq-zero, mod-eq-zero_of_dvd, le_of_dvd}
use Rattle.std.proofs.lemmas.List.Elements.{All-nil, All-cons, All-head, All-tail, All-contains}
use Rattle.std.specs.List.{fold, All, Contains}
use Rattle.std.proofs.lemmas.Bool.Decides.{nat_tests}
use Rattle.std.proofs.Math.Nat.{eq-zero_of_zero-dvd, pos_of_dvd_of_pos, mul-div_cancel', mul-div_right, div_self, dvd-mul_right, dvd-mul_left, dvd_of_mul-dvd-mul_left, mul-dvd-mul_left, mul-dvd-mul_right}
use Rattle.std.proofs.lemmas.Bool.{false≢true}
use Rattle.frac128.specs.Divisors.{divides, common_divisor_up_to, gcd_of, gcd_of_list, lcm_of, IsLeastCommonMultiple}

-- Euclid's algorithm finds a greatest common divisor
some_IsGcd : (turns x y : ℕ) → y < turns → (g : ℕ) × IsGcd x y g
some_IsGcd zero x y h = absurd (omega arith)
some_IsGcd (suc t) x y h =
    elim (eq-zero-or-pos y) [
      | inl e ↦ (x, IsGcd-from_zero x y e)
      | inr more ↦
          let less : x % y < t = omega arith in
          let found = some_IsGcd t y (x % y) less in
          (found.0, IsGcd-from_mod x y found.0 found.1)
    ]

both_divided : (d x y : ℕ) → (divides d x && divides d y) ≡ true → (d ∣ x) × (d ∣ y)
both_divided d x y h =
    let first : x % d ≡ 0 = grind (arith, nat_tests) in
    let second : y % d ≡ 0 = grind (arith, nat_tests) in
    (dvd_of_mod-eq-zero d first, dvd_of_mod-eq-zero d second)

both_tested : (d x y : ℕ) → d ∣ x → d ∣ y → (divides d x && divides d y) ≡ true
both_tested d x y p q =
    let first : x % d ≡ 0 = mod-eq-zero_of_dvd d p in
    let second : y % d ≡ 0 = mod-eq-zero_of_dvd d q in
    grind (arith, nat_tests)

-- The search from `most` down finds the greatest common divisor, if this is at most `most`.
common_divisor_up_to-found : (most x y g : ℕ) → IsGcd x y g → 0 < g → g ≤ most → common_divisor_up_to most x y ≡ g
unfolding common_divisor_up_to
common_divisor_up_to-found zero x y g h some small = omega arith
common_divisor_up_to-found (suc d) x y g h some small =
    let test : Bool = divides (suc d) x && divides (suc d) y in
    let rest : ℕ = common_divisor_up_to d x y in
    let Goal : Bool → Type 0 = λ b. (if b then suc d else rest) ≡ g in
    (elim test as (λ b. test ≡ b → Goal b) [
      | true ↦ λ e.
          let both = both_divided (suc d) x y e in
          let low : suc d ≤ g = le_of_dvd some (h.2 (suc d) both.0 both.1) in
          omega arith
      | false ↦ λ e.
          let other : g ≢ suc d = λ same. false≢true (sym e ∙ both_tested (suc d) x y (subst (λ n. n ∣ x) same h.0) (subst (λ n. n ∣ y) same h.1)) in
          common_divisor_up_to-found d x y g h some (omega arith)
    ]) refl

-- Each number that is a greatest common divisor of `x` and `y` equals `gcd_of x y`.
pub gcd_of_is : (x y g : ℕ) → IsGcd x y g → gcd_of x y ≡ g
unfolding gcd_of common_divisor_up_to
gcd_of_is zero zero g h = sym (eq-zero_of_zero-dvd (h.2 0 (dvd_refl 0) (dvd_refl 0)))
gcd_of_is (suc x) y g h =
    let low : g ≤ suc x = le_of_dvd (omega arith) h.0 in
    let some : 0 < g = pos_of_dvd_of_pos h.0 (omega arith) in
    common_divisor_up_to-found (max (suc x) y) (suc x) y g h some (omega arith)
gcd_of_is zero (suc y) g h =
    let low : g ≤ suc y = le_of_dvd (omega arith) h.1 in
    let some : 0 < g = pos_of_dvd_of_pos h.1 (omega arith) in
    common_divisor_up_to-found (max zero (suc y)) zero (suc y) g h some (omega arith)

-- `gcd_of x y` divides both, and each common divisor divides it
pub IsGcd-gcd_of : (x y : ℕ) → IsGcd x y (gcd_of x y)
IsGcd-gcd_of x y =
    let found : (g : ℕ) × IsGcd x y g = some_IsGcd (suc y) x y (omega arith) in
    subst (IsGcd x y) (sym (gcd_of_is x y found.0 found.1)) found.1

-- If the signed number `z` is `gcd_of x y`, its absolute value is the greatest common divisor.
pub IsGcd-from_value : (x y : ℕ) (z : ℤ) → z ≡ pos (gcd_of x y) → IsGcd x y (unsigned_abs z)
IsGcd-from_value x y z e = subst (λ (v : ℤ). IsGcd x y (unsigned_abs v)) (sym e) (IsGcd-gcd_of x y)

-- The greatest common divisor is at most the greater of the two numbers.
pub gcd_of-le : (x y : ℕ) → gcd_of x y ≤ max x y
gcd_of-le zero zero = let e : gcd_of 0 0 ≡ 0 = gcd_of_is 0 0 0 (IsGcd-from_zero 0 0 refl) in omega arith
gcd_of-le (suc x) y =
    let low : gcd_of (suc x) y ≤ suc x = le_of_dvd (omega arith) (IsGcd-gcd_of (suc x) y).0 in
    omega arith
gcd_of-le zero (suc y) =
    let low : gcd_of zero (suc y) ≤ suc y = le_of_dvd (omega arith) (IsGcd-gcd_of zero (suc y)).1 in
    omega arith

pub gcd_of-zero : (x : ℕ) → gcd_of x 0 ≡ x
gcd_of-zero x = gcd_of_is x 0 x (IsGcd-from_zero x 0 refl)

pub gcd_of-swap : (x y : ℕ) → gcd_of x y ≡ gcd_of y x
gcd_of-swap x y = gcd_of_is x y (gcd_of y x) (IsGcd-swap y x (gcd_of y x) (IsGcd-gcd_of y x))

pub gcd_of-from_zero : (y : ℕ) → gcd_of 0 y ≡ y
gcd_of-from_zero y = gcd_of-swap 0 y ∙ gcd_of-zero y

-- If one of the numbers is above 0, so is their greatest common divisor.
pub gcd_of-positive : (x y : ℕ) → (0 < x) ⊎ (0 < y) → 0 < gcd_of x y
gcd_of-positive x y (inl some) = pos_of_dvd_of_pos (IsGcd-gcd_of x y).0 some
gcd_of-positive x y (inr some) = pos_of_dvd_of_pos (IsGcd-gcd_of x y).1 some

-- If both numbers are multiplied by `k`, so is their greatest common divisor.
IsGcd-scale : (k x y g : ℕ) → 0 < k → IsGcd x y g → IsGcd (k * x) (k * y) (k * g)
IsGcd-scale k x y g some h =
    let whole = IsGcd-gcd_of (k * x) (k * y) in
    let greatest : ℕ = gcd_of (k * x) (k * y) in
    let rest : ℕ = greatest / k in
    let holds : k * rest ≡ greatest =
    mul-div_cancel' k (whole.2 k (dvd-mul_right k x) (dvd-mul_right k y)) in
    let divides_x : rest ∣ x = dvd_of_mul-dvd-mul_left _ some (subst (λ n. n ∣ k * x) (sym holds) whole.0) in
    let divides_y : rest ∣ y = dvd_of_mul-dvd-mul_left _ some (subst (λ n. n ∣ k * y) (sym holds) whole.1) in
    let below : greatest ∣ k * g = subst (λ n. n ∣ k * g) holds (mul-dvd-mul_left _ k (h.2 rest divides_x divides_y)) in
    (mul-dvd-mul_left _ k h.0, mul-dvd-mul_left _ k h.1, λ d p q. dvd_trans _ (whole.2 d p q) below)

pub gcd_of-scale : (k x y : ℕ) → gcd_of (k * x) (k * y) ≡ k * gcd_of x y
gcd_of-scale k x y =
    elim (eq-zero-or-pos k) [
      | inl e ↦
          let Goal : ℕ → Type 0 = λ n. gcd_of (n * x) (n * y) ≡ n * gcd_of x y in
          subst Goal (sym e) (simp zero-mul (gcd_of-zero 0))
      | inr some ↦ gcd_of_is (k * x) (k * y) (k * gcd_of x y) (IsGcd-scale k x y (gcd_of x y) some (IsGcd-gcd_of x y))
    ]

-- If `g` is above 0 and `g * n` is `g`, then `n` is 1.
one_times : (g n : ℕ) → 0 < g → g * n ≡ g → n ≡ 1
one_times g n some e = sym (mul-div_right n some) ∙ ap (λ m. m / g) e ∙ div_self some

gcd_of_parts : (g x y a b : ℕ) → 0 < g → gcd_of x y ≡ g → g * a ≡ x → g * b ≡ y → gcd_of a b ≡ 1
gcd_of_parts g x y a b some is x_is y_is =
    let whole : gcd_of (g * a) (g * b) ≡ g = ap (λ n. gcd_of n (g * b)) x_is ∙ ap (gcd_of x) y_is ∙ is in
    one_times g (gcd_of a b) some (sym (gcd_of-scale g a b) ∙ whole)

-- If two numbers are divided by their greatest common divisor, the quotients have no common divisor above 1.
pub gcd_of-divided : (x y : ℕ) → 0 < gcd_of x y → gcd_of (x / gcd_of x y) (y / gcd_of x y) ≡ 1
gcd_of-divided x y some =
    let both = IsGcd-gcd_of x y in
    gcd_of_parts (gcd_of x y) x y _ _ some refl (mul-div_cancel' (gcd_of x y) both.0) (mul-div_cancel' (gcd_of x y) both.1)

-- If `a` divides `n * b`, and `a` and `b` have no common divisor above 1, then `a` divides `n`.
pub dvd-from_coprime : (a b n : ℕ) → gcd_of a b ≡ 1 → a ∣ n * b → a ∣ n
dvd-from_coprime a b n apart h =
    let all : gcd_of (n * a) (n * b) ≡ n = gcd_of-scale n a b ∙ ap (λ m. n * m) apart ∙ omega arith in
    subst (λ m. a ∣ m) all ((IsGcd-gcd_of (n * a) (n * b)).2 a (dvd-mul_left a n) h)

-- ---- the least common multiple

-- If `a` and `b` have no common divisor above 1, the least common multiple of `g * a` and `g * b` is `a * (g * b)`.
least_from_parts : (g a b : ℕ) → 0 < g → gcd_of a b ≡ 1 → IsLeastCommonMultiple (g * a) (g * b) (a * (g * b))
unfolding IsLeastCommonMultiple
least_from_parts g a b some apart =
    let of_x : (g * a) * b ≡ a * (g * b) = omega arith in (
      subst (λ m. g * a ∣ m) of_x (dvd-mul_right (g * a) b),
      dvd-mul_left (g * b) a,
      λ n p q.
          let k : ℕ = n / (g * b) in
          let n_is : g * b * k ≡ n = mul-div_cancel' (g * b) q in
          let regrouped : n ≡ g * (k * b) = sym n_is ∙ omega arith in
          let a_divides : a ∣ k * b = dvd_of_mul-dvd-mul_left _ some (subst (λ m. g * a ∣ m) regrouped p) in
          let a_divides_k : a ∣ k = dvd-from_coprime a b k apart a_divides in
          let back : k * (g * b) ≡ n = omega arith in
          subst (λ m. a * (g * b) ∣ m) back (mul-dvd-mul_right _ a_divides_k (g * b)),
    )

-- If `x` is above 0, `lcm_of x y` is the least common multiple of `x` and `y`.
pub IsLeastCommonMultiple-lcm_of : (x y : ℕ) → 0 < x → IsLeastCommonMultiple x y (lcm_of x y)
unfolding lcm_of
IsLeastCommonMultiple-lcm_of x y some_x =
    let g : ℕ = gcd_of x y in
    let some : 0 < g = gcd_of-positive x y (inl some_x) in
    let both = IsGcd-gcd_of x y in
    let x_is : g * (x / g) ≡ x = mul-div_cancel' g both.0 in
    let y_is : g * (y / g) ≡ y = mul-div_cancel' g both.1 in
    let parts = least_from_parts g (x / g) (y / g) some (gcd_of-divided x y some) in
    let Goal : ℕ → ℕ → Type 0 = λ u v. IsLeastCommonMultiple u v (x / g * v) in
    subst (λ u. Goal u y) x_is (subst (Goal (g * (x / g))) y_is parts)

-- If `x` is above 0, `x` divided by its greatest common divisor with `y` is at least 1.
pub beyond-positive : (x y g : ℕ) → g ≡ gcd_of x y → 0 < x → 0 < x / g
beyond-positive x y g is some_x =
    let x_is : g * (x / g) ≡ x = mul-div_cancel' g (subst (λ d. d ∣ x) (sym is) (IsGcd-gcd_of x y).0) in
    pos_of_dvd_of_pos (dvd-mul_left (x / g) g) (subst (λ n. 0 < n) (sym x_is) some_x)

-- ---- the greatest common divisor of a list

fold_divides : (a : ℕ) (xs : List ℕ) → (fold gcd_of a xs ∣ a) × All (λ x. fold gcd_of a xs ∣ x) xs
fold_divides a [] = (dvd_refl a, All-nil (λ n. a ∣ n))
fold_divides a (x ∷ xs) =
    let rest = fold_divides (gcd_of a x) xs in
    let step = IsGcd-gcd_of a x in
    (dvd_trans _ rest.0 step.0, All-cons (λ n. fold gcd_of (gcd_of a x) xs ∣ n) x xs (dvd_trans _ rest.0 step.1) rest.1)

-- the greatest common divisor of a list divides each number of the list
pub gcd_of_list-divides : (xs : List ℕ) → All (λ x. gcd_of_list xs ∣ x) xs
gcd_of_list-divides xs = (fold_divides 0 xs).1

fold_greatest : (d a : ℕ) (xs : List ℕ) → d ∣ a → All (λ x. d ∣ x) xs → d ∣ fold gcd_of a xs
fold_greatest d a [] h each = h
fold_greatest d a (x ∷ xs) h each =
    fold_greatest d (gcd_of a x) xs ((IsGcd-gcd_of a x).2 d h (All-head (λ n. d ∣ n) x xs each)) (All-tail (λ n. d ∣ n) x xs each)

-- If a number divides each number of a list, it divides the list's greatest common divisor.
pub gcd_of_list-greatest : (d : ℕ) (xs : List ℕ) → All (λ x. d ∣ x) xs → d ∣ gcd_of_list xs
gcd_of_list-greatest d xs each = fold_greatest d 0 xs (dvd-zero d) each

-- If some number of a list is above 0, so is the list's greatest common divisor.
pub gcd_of_list-positive : (xs : List ℕ) (x : ℕ) → Contains xs x → 0 < x → 0 < gcd_of_list xs
gcd_of_list-positive xs x h some =
    pos_of_dvd_of_pos (All-contains (λ n. gcd_of_list xs ∣ n) xs x (gcd_of_list-divides xs) h) some

fold_scale : (k a : ℕ) (xs : List ℕ) → fold gcd_of (k * a) (map (λ x. k * x) xs) ≡ k * fold gcd_of a xs
fold_scale k a [] = refl
fold_scale k a (x ∷ xs) =
    ap (λ b. fold gcd_of b (map (λ x. k * x) xs)) (gcd_of-scale k a x) ∙ fold_scale k (gcd_of a x) xs

-- if all numbers of a list are multiplied by `k`, so is their greatest common divisor
pub gcd_of_list-scale : (k : ℕ) (xs : List ℕ) → gcd_of_list (map (λ x. k * x) xs) ≡ k * gcd_of_list xs
gcd_of_list-scale k xs =
    let zero_is : 0 ≡ k * 0 = omega arith in
    ap (λ b. fold gcd_of b (map (λ x. k * x) xs)) zero_is ∙ fold_scale k 0 xs

map_divided : (g : ℕ) (xs : List ℕ) → All (λ x. g ∣ x) xs → map (λ x. g * x) (map (λ x. x / g) xs) ≡ xs
map_divided g [] each = refl
map_divided g (x ∷ xs) each =
    let first : g * (x / g) ≡ x = mul-div_cancel' g (All-head (λ n. g ∣ n) x xs each) in
    let rest : map (λ x. g * x) (map (λ x. x / g) xs) ≡ xs = map_divided g xs (All-tail (λ n. g ∣ n) x xs each) in
    cc

-- If the numbers of a list are divided by their greatest common divisor, the quotients have no common divisor above 1.
pub gcd_of_list-divided : (xs : List ℕ) → 0 < gcd_of_list xs → gcd_of_list (map (λ x. x / gcd_of_list xs) xs) ≡ 1
gcd_of_list-divided xs some =
    let g : ℕ = gcd_of_list xs in
    one_times g _ some (sym (gcd_of_list-scale g (map (λ x. x / g) xs)) ∙ ap gcd_of_list (map_divided g xs (gcd_of_list-divides xs)))

-- ---- lists of signed numbers, by their absolute values

abs_of_negated : (n : ℕ) → unsigned_abs (neg_ℤ (pos n)) ≡ n
abs_of_negated zero = refl
abs_of_negated (suc n) = refl

-- The absolute value of a quotient by `g` is the quotient of the absolute value.
pub unsigned_abs-int_div : (z : ℤ) (g : ℕ) → unsigned_abs (int_div z (pos g)) ≡ unsigned_abs z / g
unsigned_abs-int_div (pos n) g = refl
unsigned_abs-int_div (negsuc n) g = abs_of_negated (suc n / g)

absolute_quotients : (g : ℕ) (zs : List ℤ) → map unsigned_abs (map (λ z. int_div z (pos g)) zs) ≡ map (λ n. n / g) (map unsigned_abs zs)
absolute_quotients g [] = refl
absolute_quotients g (z ∷ zs) =
    let first : unsigned_abs (int_div z (pos g)) ≡ unsigned_abs z / g = unsigned_abs-int_div z g in
    let rest : map unsigned_abs (map (λ y. int_div y (pos g)) zs) ≡ map (λ n. n / g) (map unsigned_abs zs) = absolute_quotients g zs in
    cc

-- If signed numbers are divided by the greatest common divisor of their absolute values, the quotients have no common divisor above 1.
pub gcd_of_list-int_divided : (zs : List ℤ) (g : ℕ) → g ≡ gcd_of_list (map unsigned_abs zs) → 0 < g → gcd_of_list (map unsigned_abs (map (λ z. int_div z (pos g)) zs)) ≡ 1
gcd_of_list-int_divided zs g is some =
    let sizes : List ℕ = map unsigned_abs zs in
    let Goal : ℕ → Type 0 = λ n. gcd_of_list (map (λ m. m / n) sizes) ≡ 1 in
    ap gcd_of_list (absolute_quotients g zs) ∙ subst Goal (sym is) (gcd_of_list-divided sizes (subst (λ n. 0 < n) is some))
