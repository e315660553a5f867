-- Powers of ten, the digits of numbers, and rounding.
use Rattle.std.proofs.Common.{◌≡◌, ℕ, zero, suc, ◌+◌, ◌-◌, ◌*◌, ◌/◌, ◌%◌, ◌^◌, ◌<◌, ◌≤◌, List, [], ◌∷◌, ◌++◌, append_assoc, refl, sym, ap, ◌∙◌, arith}
use Rattle.std.proofs.Math.Nat.{div-div-eq-div-mul, div-one, one-le-pow, pow-le-pow_right, pow-succ', pow-zero}
use Rattle.std.specs.Cmp.{ranked}
use Rattle.std.specs.declared.cmp.Ordering.{Ordering}
use Rattle.std.specs.declared.cmp.Ordering.TheVariants.{Less, Equal, Greater}
use Rattle.std.specs.Ordering.{nat_cmp}
use Rattle.bundle_page.specs.Decimals.{last_digits}

-- ---- powers of ten

pub power-le : (e : ℕ) → e ≤ 38 → 10 ^ e ≤ 10 ^ 38
power-le e h = pow-le-pow_right {n = 10} (omega arith) {i = e} {j = 38} h

pub power-some : (e : ℕ) → 1 ≤ 10 ^ e
power-some e = one-le-pow e 10 (omega arith)

-- ---- the last digits of a number

-- the last `count + 1` digits are the first of them, and then the last `count` digits
pub first_of_last : (count number : ℕ) → last_digits (suc count) number ≡ (48 + number / 10 ^ count % 10) ∷ last_digits count number
first_of_last zero number = ap (λ n. (48 + n % 10) ∷ []) (sym (ap (λ p. number / p) (pow-zero 10) ∙ div-one number))
first_of_last (suc count) number =
    let last = (48 + number % 10) ∷ [] in
    let same : number / 10 / 10 ^ count ≡ number / 10 ^ suc count = div-div-eq-div-mul number 10 (10 ^ count) ∙ ap (λ p. number / p) (sym (pow-succ' 10 count)) in
    ap (λ ds. ds ++ last) (first_of_last count (number / 10)) ∙ ap (λ n. (48 + n % 10) ∷ last_digits (suc count) number) same

-- if the next digit is appended, the text with the digits that are left to write is the same as before
pub digit_added : (start before after : List ℕ) (count place number digit : ℕ) → place < count → digit ≡ 48 + number / 10 ^ (count - 1 - place) % 10 →
    before ++ last_digits (count - place) number ≡ start → after ≡ before ++ digit ∷ [] → after ++ last_digits (count - (place + 1)) number ≡ start
digit_added start before after count place number digit inside is so_far added =
    let left = count - (place + 1) in
    let at : count - 1 - place ≡ left = omega arith in
    let more : suc left ≡ count - place = omega arith in
    let here : digit ≡ 48 + number / 10 ^ left % 10 = is ∙ ap (λ e. 48 + number / 10 ^ e % 10) at in
    ap (λ text. text ++ last_digits left number) added ∙ append_assoc before (digit ∷ []) (last_digits left number)
    ∙ ap (λ d. before ++ (d ∷ last_digits left number)) here ∙ ap (λ ds. before ++ ds) (sym (first_of_last left number))
    ∙ ap (λ k. before ++ last_digits k number) more ∙ so_far

-- ---- rounding to ten-thousandths

pub half_less : (count whole : ℕ) → 1 ≤ count → (2 * count - 1) * whole + whole ≡ 2 * (count * whole)
half_less zero whole some = absurd (omega arith)
half_less (suc n) whole some =
    let odd : 2 * suc n - 1 ≡ 2 * n + 1 = omega arith in
    rw odd (omega arith)

-- if `part / whole` is at least `count - 1/2` ten-thousandths, it has at least `count` ten-thousandths after rounding
pub reached : (count part whole : ℕ) (order : Ordering) → 1 ≤ count → order ≡ nat_cmp ((2 * count - 1) * whole) (part * 20000) → (order ≡ Greater → ⊥) →
    2 * (count * whole) ≤ 20000 * part + whole
reached count part whole Less some is other = let l = ranked ((2 * count - 1) * whole) (part * 20000) Less is in omega (arith, half_less count whole some, l)
reached count part whole Equal some is other = let l = ranked ((2 * count - 1) * whole) (part * 20000) Equal is in omega (arith, half_less count whole some, l)
reached count part whole Greater some is other = absurd (other refl)
