-- Laws of fractions in lowest terms.
use Rattle.std.proofs.Common.{◌≡◌, ℕ, ◌*◌, ◌/◌, ◌<◌, sym, ◌∙◌, ap, subst, inr, arith}
use Rattle.std.proofs.Math.Nat.{mul-div_cancel', mul-div_right}
use Rattle.std.specs.Int.{IsGcd}
use Rattle.frac128.specs.Divisors.{gcd_of}
use Rattle.frac128.specs.Fractions.{IsLowest}
use Rattle.frac128.proofs.DivisorLaws.{IsGcd-gcd_of, gcd_of-swap, beyond-positive, gcd_of-positive, gcd_of-divided, gcd_of-scale}

-- If both numbers of a fraction are divided by their greatest common divisor, the fraction is in lowest terms.
pub IsLowest-divided : (num den g : ℕ) → g ≡ gcd_of num den → 0 < den → IsLowest (num / g) (den / g)
IsLowest-divided num den g is some_den =
    let some : 0 < gcd_of num den = gcd_of-positive num den (inr some_den) in
    let Goal : ℕ → Type 0 = λ d. gcd_of (num / d) (den / d) ≡ 1 in
    (beyond-positive den num g (is ∙ gcd_of-swap num den) some_den, subst Goal (sym is) (gcd_of-divided num den some))

same_from_parts : (g x y a b : ℕ) → g * a ≡ x → g * b ≡ y → x * b ≡ a * y
same_from_parts g x y a b x_is y_is =
    let first : g * a * b ≡ x * b = ap (λ n. n * b) x_is in
    let second : a * (g * b) ≡ a * y = ap (λ n. a * n) y_is in
    omega arith

-- The fraction in lowest terms has the same value: num/den = (num/g)/(den/g), as products.
pub products-divided : (num den g : ℕ) → g ≡ gcd_of num den → num * (den / g) ≡ num / g * den
products-divided num den g is =
    let both = subst (IsGcd num den) (sym is) (IsGcd-gcd_of num den) in
    same_from_parts g num den (num / g) (den / g) (mul-div_cancel' g both.0) (mul-div_cancel' g both.1)

-- If two fractions in lowest terms have the same value, they have the same numerator and the same denominator.
pub IsLowest-unique : (an ad bn bd : ℕ) → IsLowest an ad → IsLowest bn bd → an * bd ≡ bn * ad → (an ≡ bn) × (ad ≡ bd)
IsLowest-unique an ad bn bd a_lowest b_lowest same =
    let by_a : gcd_of (bd * an) (bd * ad) ≡ bd = gcd_of-scale bd an ad ∙ ap (λ n. bd * n) a_lowest.1 ∙ omega arith in
    let by_b : gcd_of (ad * bn) (ad * bd) ≡ ad = gcd_of-scale ad bn bd ∙ ap (λ n. ad * n) b_lowest.1 ∙ omega arith in
    let first : bd * an ≡ ad * bn = omega arith in
    let second : bd * ad ≡ ad * bd = omega arith in
    let den_is : ad ≡ bd = sym by_b ∙ ap (λ n. gcd_of n (ad * bd)) (sym first) ∙ ap (gcd_of (bd * an)) (sym second) ∙ by_a in
    let product : bd * an ≡ bd * bn = first ∙ ap (λ n. n * bn) den_is in
    (sym (mul-div_right an b_lowest.0) ∙ ap (λ n. n / bd) product ∙ mul-div_right bn b_lowest.0, den_is)
