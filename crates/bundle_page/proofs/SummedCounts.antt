-- Lemmas on sums of counts: their digits, their lowest terms, their rounding, and the sum with one more count.
use Rattle.std.proofs.Common.{◌≡◌, ℕ, zero, suc, ◌+◌, ◌*◌, ◌/◌, ◌%◌, ◌^◌, ◌<◌, ◌≤◌, min, max, Bool, true, false, not, List, [], ◌∷◌, ◌++◌, append_assoc, filter, fold, length, get_or, refl, sym, ap, subst, ◌∙◌, inr, arith}
use Rattle.std.specs.Fmt.{decimal}
use Rattle.std.specs.Int.{IsGcd, ◌∣◌}
use Rattle.std.specs.List.{range_with_len, sum_by}
use Rattle.std.proofs.Math.Nat.{div-add-mod', div-mul_cancel, mul-add-div, mul-add-div_right, mul-add-mod_self_left, mul-le-mul_left, mul_assoc, mul_comm, pow-succ', pow-zero}
use Rattle.std.proofs.lemmas.Fmt.{decimal_step_wide}
use Rattle.std.proofs.lemmas.List.{append-nil}
use Rattle.std.proofs.lemmas.List.FromFn.{get_or-map-range_with_len, length-map-range_with_len}
use Rattle.std.proofs.lemmas.List.Filters.{sum_by-filter_both}
use Rattle.std.proofs.lemmas.List.Sums.{sum_by_push}
use Rattle.std.proofs.lemmas.Nat.{mod-mul-add}
use Rattle.std.proofs.lemmas.Nat.Gcd.{IsGcd-from_mod, IsGcd-swap}
use Rattle.frac128.specs.Divisors.{gcd_of}
use Rattle.frac128.specs.Fractions.{Fraction, lowest_of}
use Rattle.frac128.proofs.DivisorLaws.{IsGcd-gcd_of, gcd_of-positive, gcd_of_is}
use Rattle.define_pools.proofs.Lists.{filter_passed, filter_taken}
use Rattle.define_made_pools.specs.Summary.{greatest, least}
use Rattle.define_pools.specs.Lists.{includes}
use Rattle.define_pools.specs.Lottery.{Lottery, LotteryRow, TotalAgrees, count, counts}
use Rattle.define_pools.specs.Pool.{Pool}
use Rattle.bundle_page.specs.Decimals.{last_digits, ten_thousandths}
use Rattle.bundle_page.proofs.Numbers.{power-some}

-- ---- numbers written in two parts

-- the digits of `high * 10 ^ count + low` are those of `high`, followed by the last `count` digits, which are those of `low`
pub decimal_parts : (count high low : ℕ) → 1 ≤ high → low < 10 ^ count → high * 10 ^ count + low < 10 ^ 64 → decimal (high * 10 ^ count + low) ≡ decimal high ++ last_digits count low
decimal_parts zero high low some small fits =
    let power : 10 ^ 0 ≡ 1 = pow-zero 10 in
    let less : low < 1 = subst (λ p. low < p) power small in
    let nothing : low ≡ 0 = omega arith in
    let whole : high * 10 ^ 0 ≡ high = ap (λ p. high * p) power ∙ omega arith in
    let same : high * 10 ^ 0 + low ≡ high = omega arith in
    ap decimal same ∙ sym (append-nil (decimal high))
decimal_parts (suc count) high low some small fits =
    let power : 10 ^ suc count ≡ 10 * 10 ^ count = pow-succ' 10 count in
    let part = high * 10 ^ count in
    let tens : high * 10 ^ suc count ≡ 10 * part = ap (λ p. high * p) power ∙ sym (mul_assoc high 10 (10 ^ count)) ∙ ap (λ k. k * 10 ^ count) (mul_comm high 10) ∙ mul_assoc 10 high (10 ^ count) in
    let all = high * 10 ^ suc count + low in
    let is : all ≡ 10 * part + low = ap (λ t. t + low) tens in
    let most : high ≤ part = le_mul high (10 ^ count) (power-some count) in
    let many : 10 ≤ all = omega arith in
    let front : all / 10 ≡ part + low / 10 = ap (λ k. k / 10) is ∙ mul-add-div {m = 10} (omega arith) part low in
    let last : all % 10 ≡ low % 10 = ap (λ k. k % 10) is ∙ mul-add-mod_self_left 10 part low in
    let less : low < 10 * 10 ^ count = subst (λ p. low < p) power small in
    let rest : low / 10 < 10 ^ count = omega arith in
    let smaller : part + low / 10 < 10 ^ 64 = omega arith in
    decimal_step_wide all many fits ∙ ap (λ k. decimal k ++ (48 + all % 10) ∷ []) front ∙ ap (λ d. decimal (part + low / 10) ++ (48 + d) ∷ []) last
    ∙ ap (λ ds. ds ++ (48 + low % 10) ∷ []) (decimal_parts count high (low / 10) some rest smaller)
    ∙ append_assoc (decimal high) (last_digits count (low / 10)) ((48 + low % 10) ∷ [])
  where
    le_mul : (a b : ℕ) → 1 ≤ b → a ≤ a * b
    le_mul a b h = let l = mul-le-mul_left a h in omega arith

-- ---- fractions of sums

-- `whole + rest / total` in lowest terms is `rest / total` in lowest terms with `whole` added
pub lowest_of_sum : (whole rest total : ℕ) → rest < total →
    lowest_of (whole * total + rest) total ≡ record { num = whole * (lowest_of rest total).den + (lowest_of rest total).num; den = (lowest_of rest total).den }
lowest_of_sum whole rest total less =
    let g = gcd_of rest total in
    let sum = whole * total + rest in
    let left : sum % total ≡ rest = mod-mul-add whole total rest less in
    let both : IsGcd rest total g = IsGcd-gcd_of rest total in
    let same : gcd_of sum total ≡ g = gcd_of_is sum total g (IsGcd-from_mod sum total g (subst (λ m. IsGcd total m g) (sym left) (IsGcd-swap rest total g both))) in
    let some : 0 < g = gcd_of-positive rest total (inr (omega arith)) in
    let num : sum / g ≡ whole * (total / g) + rest / g = divided whole total rest g some both.1 in
    ap (λ d. let f : Fraction = record { num = sum / d; den = total / d } in f) same ∙ ap (λ n. let f : Fraction = record { num = n; den = total / g } in f) num
  where
    divided : (w t r g : ℕ) → 0 < g → g ∣ t → (w * t + r) / g ≡ w * (t / g) + r / g
    divided w t r g some d =
        let t_is : t / g * g ≡ t = div-mul_cancel g d in
        let product : w * t ≡ w * (t / g) * g = ap (λ k. w * k) (sym t_is) ∙ sym (mul_assoc w (t / g) g) in
        ap (λ k. (k + r) / g) product ∙ mul-add-div_right {m = g} some (w * (t / g)) r

-- ---- sums over those who pass a test

pub one_summed : (f : ℕ → ℕ) (p : ℕ → Bool) (i sum more : ℕ) → p i ≡ true → sum ≡ sum_by f (filter p (range_with_len 0 i)) → more ≡ sum + f i →
    more ≡ sum_by f (filter p (range_with_len 0 (i + 1)))
one_summed f p i sum more passes so_far added =
    added ∙ ap (λ s. s + f i) so_far ∙ sym (sum_by_push f (filter p (range_with_len 0 i)) i) ∙ ap (sum_by f) (sym (filter_taken p i passes))

pub one_left : (f : ℕ → ℕ) (p : ℕ → Bool) (i sum : ℕ) → p i ≡ false → sum ≡ sum_by f (filter p (range_with_len 0 i)) → sum ≡ sum_by f (filter p (range_with_len 0 (i + 1)))
one_left f p i sum fails so_far = so_far ∙ ap (sum_by f) (sym (filter_passed p i fails))

-- ---- counts are at most the total

pub count_within : (lottery : Lottery) → TotalAgrees lottery → (i : ℕ) → count lottery i ≤ lottery.total
count_within lottery agrees i =
    omega (
      arith,
      agrees.total,
      sum_by-filter_both (λ (row : LotteryRow). includes row.panel i) (λ (row : LotteryRow). not (includes row.panel i)) (λ row. refl) (λ (row : LotteryRow). row.weight) lottery.rows,
    )

pub counts_each : (pool : Pool) (lottery : Lottery) → length (counts pool lottery) ≡ length pool.volunteers
counts_each pool lottery = length-map-range_with_len (count lottery) 0 (length pool.volunteers)

pub counts_within : (pool : Pool) (lottery : Lottery) → TotalAgrees lottery → (i : ℕ) → i < length (counts pool lottery) → get_or (counts pool lottery) i 0 ≤ lottery.total
counts_within pool lottery agrees i inside =
    let below : i < length pool.volunteers = omega (arith, counts_each pool lottery) in
    let at : 0 + i ≡ i = omega arith in
    let is : get_or (counts pool lottery) i 0 ≡ count lottery i = get_or-map-range_with_len (count lottery) 0 (length pool.volunteers) i i 0 below at in
    omega (arith, is, count_within lottery agrees i)

-- ---- if all numbers of a list are at most the total, so are the least and the greatest

least_from : (first total : ℕ) (xs : List ℕ) → first ≤ total → fold min first xs ≤ total
least_from first total [] h = h
least_from first total (x ∷ xs) h = least_from (min first x) total xs (omega arith)

greatest_from : (first total : ℕ) (xs : List ℕ) → first ≤ total → ((i : ℕ) → i < length xs → get_or xs i 0 ≤ total) → fold max first xs ≤ total
greatest_from first total [] h each = h
greatest_from first total (x ∷ xs) h each =
    let head : x ≤ total = each 0 (omega arith) in
    greatest_from (max first x) total xs (omega arith) (λ i l. each (suc i) (omega arith))

pub least_within : (xs : List ℕ) (total : ℕ) → ((i : ℕ) → i < length xs → get_or xs i 0 ≤ total) → least xs ≤ total
least_within [] total each = omega arith
least_within (x ∷ xs) total each = least_from x total xs (each 0 (omega arith))

pub greatest_within : (xs : List ℕ) (total : ℕ) → ((i : ℕ) → i < length xs → get_or xs i 0 ≤ total) → greatest xs ≤ total
greatest_within [] total each = omega arith
greatest_within (x ∷ xs) total each = greatest_from x total xs (each 0 (omega arith)) (λ i l. each (suc i) (omega arith))

-- ---- the parts of a numerator

-- `whole * den + num` can be computed from the quotients and the rests of `den` and `num` by `base`
pub numerator_is : (whole num den base : ℕ) →
    (whole * (den / base) + num / base + (whole * (den % base) + num % base) / base) * base + (whole * (den % base) + num % base) % base ≡ whole * den + num
numerator_is whole num den base =
    let low = whole * (den % base) + num % base in
    let product : whole * (den / base * base + den % base) ≡ whole * den = ap (λ d. whole * d) (div-add-mod' den base) in
    let first : low / base * base + low % base ≡ low = div-add-mod' low base in
    let second : num / base * base + num % base ≡ num = div-add-mod' num base in
    omega arith

-- ---- rounding a sum

-- rounding `whole + rest / total` to ten-thousandths gives `whole * 10000` plus the rounded `rest / total`
pub rounded_is : (whole rest total : ℕ) → rest < total → whole * 10000 + ten_thousandths rest total ≡ ten_thousandths (whole * total + rest) total
rounded_is whole rest total less =
    let some : 0 < 2 * total = omega arith in
    let same : 2 * 10000 * (whole * total + rest) + total ≡ (whole * 10000) * (2 * total) + (2 * 10000 * rest + total) = omega (arith, mul_assoc whole 10000 (2 * total), mul_comm whole total) in
    sym (ap (λ n. n / (2 * total)) same ∙ mul-add-div_right {m = 2 * total} some (whole * 10000) (2 * 10000 * rest + total))
