-- A ratio in two parts, and the bounds of a running product of binomial coefficients.
use Rattle.std.proofs.Common.{◌≡◌, ℕ, suc, ◌+◌, ◌-◌, ◌*◌, ◌/◌, ◌%◌, ◌^◌, ◌<◌, ◌≤◌, sym, ap, ap₂, ◌∙◌, subst, arith, le_of_mul-le-mul_right, inl, inr, ◌⊎◌, max, min}
use Rattle.std.proofs.lemmas.Bool.{cases_lt}
use Rattle.std.proofs.lemmas.Nat.{mul-le}
use Rattle.std.proofs.Math.Nat.{div-add-mod, mul-div_cancel_left, pow-le-pow_right}
use Rattle.define_rows.specs.Binomials.{basis_count, binomial}
use Rattle.define_rows.proofs.BinomialLaws.{choose_doubles, choose_others, choose_past, choose_product, choose_rises}

module _ (number factor divisor ratio : ℕ) (some : 0 < divisor) (e : divisor * ratio ≡ factor * number) where
  whole : divisor * ratio ≡ divisor * (number / divisor * factor) + number % divisor * factor
  whole = omega (arith, e, ap (λ n. factor * n) (div-add-mod number divisor))

  quotient_below : number / divisor * factor ≤ ratio
  quotient_below = le_of_mul-le-mul_right (omega (arith, whole)) some

  -- the quotient times the factor, and the rest times the factor divided
  pub ratio-parts : number / divisor * factor + number % divisor * factor / divisor ≡ ratio
  ratio-parts =
      let left = ratio - number / divisor * factor in
      let is : left + number / divisor * factor ≡ ratio = omega (arith, quotient_below) in
      let rest : divisor * left ≡ number % divisor * factor = omega (arith, whole, ap (λ n. divisor * n) is) in
      let divided : number % divisor * factor / divisor ≡ left = ap (λ n. n / divisor) (sym rest) ∙ mul-div_cancel_left left some in
      omega (arith, is, divided)

-- a number of choices within 10^38 was reached in at most 126 turns, each of which at least doubled it
pub few-turns : (size rest : ℕ) → size ≤ rest → binomial (rest + size) size ≤ 10 ^ 38 → size < 127
few-turns size rest half l = by (cases_lt size 127)
  where
    by : (size < 127) ⊎ (127 ≤ size) → size < 127
    by (inl few) = few
    by (inr many) =
        let two : 0 < 2 = omega arith in
        let power : 2 ^ 127 ≤ 2 ^ size = pow-le-pow_right {n = 2} two {i = 127} {j = size} many in
        absurd (omega (arith, power, choose_doubles size rest half, l))

-- in an early turn the divisor and the factor have a small product
pub small-product : (size rest : ℕ) → size < 127 → rest ≤ 2 ^ 65 → (size + 1) * (rest + size + 1) < 2 ^ 128
small-product size rest few low =
    let product : (size + 1) * (rest + size + 1) ≤ 127 * (2 ^ 65 + 127) = mul-le (size + 1) (rest + size + 1) 127 (2 ^ 65 + 127) (omega (arith, few)) (omega (arith, few, low)) in
    omega (arith, product)

-- a turn multiplies by one number and divides by another
pub turn-product : (size rest ways : ℕ) → ways ≡ binomial (rest + size) size → (size + 1) * binomial (rest + (size + 1)) (size + 1) ≡ (rest + size + 1) * ways
turn-product size rest ways is =
    let things : suc (rest + size) ≡ rest + (size + 1) = omega arith in
    let factor : suc (rest + size) ≡ rest + size + 1 = omega arith in
    let chosen : suc size ≡ size + 1 = omega arith in
    sym (ap₂ (λ k n. k * binomial n k) chosen things) ∙ choose_product (rest + size) size ∙ ap₂ (λ k n. k * n) factor (sym is)

-- if a turn passes 10^38, so does the last
pub passes-on : (size rest all : ℕ) → size < all → binomial (rest + (size + 1)) (size + 1) ≤ binomial (rest + all) all
passes-on size rest all l =
    let more = all - (size + 1) in
    let things : rest + (size + 1) + more ≡ rest + all = omega (arith, l) in
    let chosen : size + 1 + more ≡ all = omega (arith, l) in
    subst (λ n. binomial (rest + (size + 1)) (size + 1) ≤ binomial n all) things
    (subst (λ k. binomial (rest + (size + 1)) (size + 1) ≤ binomial (rest + (size + 1) + more) k) chosen (choose_rises (rest + (size + 1)) (size + 1) more))

-- the bases are as many as the ways to choose the smaller of the variables that are basic and those that aren't
pub bases-chosen : (m s q : ℕ) → 0 < s + q → (high low : ℕ) → high ≡ max (m + 1) (s + q - 1) → low ≡ min (m + 1) (s + q - 1) → binomial (high + low) low ≡ basis_count m s q
bases-chosen m s q some high low high_is low_is = by (cases_lt (m + 1) (s + q - 1))
  where
    by : (m + 1 < s + q - 1) ⊎ (s + q - 1 ≤ m + 1) → binomial (high + low) low ≡ basis_count m s q
    by (inl l) =
        let things : high + low ≡ m + s + q = omega (arith, high_is, low_is, l, some) in
        let chosen : low ≡ m + 1 = omega (arith, low_is, l) in
        ap₂ binomial things chosen
    by (inr l) =
        let things : high + low ≡ m + s + q = omega (arith, high_is, low_is, l, some) in
        let all : low + (m + 1) ≡ m + s + q = omega (arith, low_is, l, some) in
        ap (λ n. binomial n low) things ∙ choose_others low (m + 1) (m + s + q) all

-- with classes alone there are fewer variables than rows
pub no-bases : (m s q : ℕ) → s + q ≡ 0 → basis_count m s q ≡ 0
no-bases m s q none = choose_past (m + s + q) (m + 1) (omega (arith, none))
