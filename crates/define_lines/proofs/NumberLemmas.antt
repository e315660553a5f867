-- A field is read as a number, with or without a sign, exactly if it is the spelling of this number, whose absolute value is at most a
-- limit.
use Rattle.std.proofs.Common.{◌≡◌, ◌≢◌, ℕ, suc, ◌<◌, ◌≤◌, ◌^◌, true, false, ◌&&◌, cond, leb, eqb, List, [], ◌∷◌, get_or, refl, ◌∙◌, ap, subst, arith, Some, None}
use Rattle.std.specs.Prelude.{ℤ, pos, negsuc, neg_ℤ, bytes_eq, unsigned_abs}
use Rattle.std.specs.Fmt.{decimal, signed_decimal}
use Rattle.std.specs.Str.Parse.{IsNumeral, digits_value, signed_digits_value, without_leading_sign}
use Rattle.std.proofs.lemmas.Bool.{and_from, and_parts, leb-true, le-leb, ne_eqb}
use Rattle.std.proofs.lemmas.Fmt.{decimal_is_IsNumeral_wide}
use Rattle.std.proofs.lemmas.Str.Parse.{digit_from_value}
use Rattle.std.proofs.lemmas.Slice.Eq.{bytes_eq-Decides}
use Rattle.std.proofs.lemmas.Option.{cond_some}
use Rattle.define_lines.specs.Numbers.{number_up_to, signed_up_to}

pub bytes_are : (xs ys : List ℕ) → bytes_eq xs ys ≡ true → xs ≡ ys
bytes_are xs ys h = (bytes_eq-Decides xs ys).0 h

pub bytes_same : (xs ys : List ℕ) → xs ≡ ys → bytes_eq xs ys ≡ true
bytes_same xs ys h = (bytes_eq-Decides xs ys).1 h

-- if a number is at most the limit and below 10 ^ 64, its digits are read as this number
pub number_again : (limit n : ℕ) → n < 10 ^ 64 → n ≤ limit → number_up_to limit (decimal n) ≡ Some n
number_again limit n small h =
    let value = (decimal_is_IsNumeral_wide n small).1 in
    let passes = and_from (bytes_eq (decimal n) (decimal n)) (leb n limit) (bytes_same (decimal n) (decimal n) refl) (le-leb n limit h) in
    ap (λ m. cond (bytes_eq (decimal m) (decimal n) && leb m limit) (Some m) None) value ∙ ap (λ test. cond test (Some n) None) passes

-- if a field is read as a number, it is this number's digits, and the number is at most the limit
pub number_spelled : (limit n : ℕ) (field : List ℕ) → number_up_to limit field ≡ Some n → (decimal n ≡ field) × (n ≤ limit)
number_spelled limit n field h =
    let value = digits_value 10 field in
    let found = cond_some (bytes_eq (decimal value) field && leb value limit) value n h in
    let parts = and_parts (bytes_eq (decimal value) field) (leb value limit) found.0 in
    subst (λ m. (decimal m ≡ field) × (m ≤ limit)) found.1 (bytes_are (decimal value) field parts.0, leb-true value limit parts.1)

-- if the field isn't the digits of any number up to the limit, `number_up_to` returns None for it
pub no_number : (limit : ℕ) (field : List ℕ) → ((n : ℕ) → n ≤ limit → decimal n ≢ field) → number_up_to limit field ≡ None
no_number limit field h =
    (elim (number_up_to limit field) as (λ o. number_up_to limit field ≡ o → o ≡ None) [
      | None ↦ λ e. refl
      | Some n ↦ λ e. let s = number_spelled limit n field e in absurd (h n s.1 s.0)
    ]) refl

-- a numeral's first byte is neither `-` nor `+`
first_is_digit : (digits : List ℕ) → IsNumeral 10 digits → (eqb (get_or digits 0 0) 45 ≡ false) × (eqb (get_or digits 0 0) 43 ≡ false)
first_is_digit [] h = absurd (omega (arith, h.0))
first_is_digit (c ∷ cs) h = let range = digit_from_value c h.1.0 in (ne_eqb c 45 (λ e. omega (arith, range)), ne_eqb c 43 (λ e. omega (arith, range)))

-- the value of a signed number's spelling is the number, if it has at most 64 digits
pub signed_value : (z : ℤ) → unsigned_abs z < 10 ^ 64 → signed_digits_value 10 (signed_decimal z) ≡ z
signed_value (pos n) small =
    let is = decimal_is_IsNumeral_wide n small in
    let first = first_is_digit (decimal n) is.0 in
    rw (first.0, first.1) (ap pos is.1)
signed_value (negsuc n) small = let is = decimal_is_IsNumeral_wide (suc n) small in ap (λ m. neg_ℤ (pos m)) is.1

-- the spelling of a number of at most 64 digits, without its sign, is a numeral
pub signed_numeral : (z : ℤ) → unsigned_abs z < 10 ^ 64 → IsNumeral 10 (without_leading_sign (signed_decimal z))
signed_numeral (pos n) small =
    let is = decimal_is_IsNumeral_wide n small in
    let first = first_is_digit (decimal n) is.0 in
    rw (first.0, first.1) is.0
signed_numeral (negsuc n) small = (decimal_is_IsNumeral_wide (suc n) small).0

-- the spelling of a signed number of at most 64 digits is read as this number, if its absolute value is at most the limit
pub signed_again : (limit : ℕ) (z : ℤ) → unsigned_abs z < 10 ^ 64 → unsigned_abs z ≤ limit → signed_up_to limit (signed_decimal z) ≡ Some z
signed_again limit z small h =
    let passes = and_from (bytes_eq (signed_decimal z) (signed_decimal z)) (leb (unsigned_abs z) limit) (bytes_same (signed_decimal z) (signed_decimal z) refl) (le-leb (unsigned_abs z) limit h) in
    ap (λ y. cond (bytes_eq (signed_decimal y) (signed_decimal z) && leb (unsigned_abs y) limit) (Some y) None) (signed_value z small) ∙ ap (λ test. cond test (Some z) None) passes

-- if a field is read as a signed number, it is this number's spelling, and the absolute value is at most the limit
pub signed_spelled : (limit : ℕ) (z : ℤ) (field : List ℕ) → signed_up_to limit field ≡ Some z → (signed_decimal z ≡ field) × (unsigned_abs z ≤ limit)
signed_spelled limit z field h =
    let value = signed_digits_value 10 field in
    let found = cond_some (bytes_eq (signed_decimal value) field && leb (unsigned_abs value) limit) value z h in
    let parts = and_parts (bytes_eq (signed_decimal value) field) (leb (unsigned_abs value) limit) found.0 in
    subst (λ y. (signed_decimal y ≡ field) × (unsigned_abs y ≤ limit)) found.1 (bytes_are (signed_decimal value) field parts.0, leb-true (unsigned_abs value) limit parts.1)

pub no_signed : (limit : ℕ) (field : List ℕ) → ((z : ℤ) → unsigned_abs z ≤ limit → signed_decimal z ≢ field) → signed_up_to limit field ≡ None
no_signed limit field h =
    (elim (signed_up_to limit field) as (λ o. signed_up_to limit field ≡ o → o ≡ None) [
      | None ↦ λ e. refl
      | Some z ↦ λ e. let s = signed_spelled limit z field e in absurd (h z s.1 s.0)
    ]) refl
