-- The number that digits spell, digit by digit.
use Rattle.std.proofs.Common.{◌≡◌, ℕ, ◌+◌, ◌-◌, ◌*◌, ◌^◌, ◌<◌, ◌≤◌, nat_lt, nat_le, ◌&&◌, Bool, true, List, length, get_or, take, sym, ap, ◌∙◌, arith}
use Rattle.std.specs.Char.{digit_value, is_ascii_digit}
use Rattle.std.specs.List.{list_all}
use Rattle.std.specs.Str.Parse.{AllDigits, digits_value}
use Rattle.std.proofs.lemmas.Bool.Decides.{nat_tests}
use Rattle.std.proofs.lemmas.Int.Digits.{digits_more, digits_value-lt, digits_value_more}
use Rattle.std.proofs.lemmas.List.{length-take-le}
use Rattle.std.proofs.Math.Nat.{pow-le-pow_right}
use Rattle.define_pools.proofs.Each.{passes_at}
use Rattle.define_desk.specs.Requests.{is_number}

-- the text spells a number: it has 1 to 18 bytes, and each is a digit
pub record IsSpelled (text : List ℕ) : Type 0 where
  pub some : 0 < length text
  pub few : length text ≤ 18
  pub all : list_all is_ascii_digit text ≡ true

pub spelled : (text : List ℕ) → is_number text ≡ true → IsSpelled text
spelled text h = record {
  some = grind (arith, nat_tests);
  few = grind (arith, nat_tests);
  all = grind (arith, nat_tests);
}

digit_range : (c : ℕ) → is_ascii_digit c ≡ true → (48 ≤ c) × (c ≤ 57)
digit_range c h = (grind (arith, nat_tests), grind (arith, nat_tests))

pub digit_at : (text : List ℕ) (at : ℕ) → IsSpelled text → at < length text → (48 ≤ get_or text at 0) × (get_or text at 0 ≤ 57)
digit_at text at it within = digit_range (get_or text at 0) (passes_at is_ascii_digit text at 0 it.all within)

value_of_digit : (c : ℕ) → 48 ≤ c → c ≤ 57 → digit_value c ≡ c - 48
value_of_digit c low high = grind (arith, nat_tests)

-- the bytes before `at` are digits, and spell `value`
pub record IsValueAt (text : List ℕ) (at value : ℕ) : Type 0 where
  pub digits : AllDigits 10 (take at text)
  pub is : value ≡ digits_value 10 (take at text)

-- before another digit is read, the value is below 10^17, so the value with this digit fits
pub small_at : (text : List ℕ) (at value : ℕ) → IsSpelled text → at < length text → IsValueAt text at value → value < 10 ^ 17
small_at text at value it within before =
    let size : length (take at text) ≡ at = length-take-le at text (omega arith) in
    let few : length (take at text) ≤ 17 = omega (arith, it.few) in
    let grows : 10 ^ length (take at text) ≤ 10 ^ 17 = pow-le-pow_right {n = 10} (omega arith) few in
    let small = digits_value-lt 10 (take at text) before.digits in
    omega (arith, before.is, small, grows)

pub one_more : (text : List ℕ) (at value : ℕ) → IsSpelled text → at < length text → IsValueAt text at value → IsValueAt text (at + 1) (value * 10 + (get_or text at 0 - 48))
one_more text at value it within before =
    let range = digit_at text at it within in
    let digit = value_of_digit (get_or text at 0) range.0 range.1 in
    record {
      digits = digits_more 10 text at within before.digits (omega (arith, digit, range.1));
      is = ap (λ n. n * 10 + (get_or text at 0 - 48)) before.is ∙ ap (λ n. digits_value 10 (take at text) * 10 + n) (sym digit) ∙ sym (digits_value_more 10 text at within);
    }

pub number_test : (text : List ℕ) (digits : Bool) → digits ≡ list_all is_ascii_digit text → 0 < length text → length text ≤ 18 → digits ≡ is_number text
number_test text digits is some few =
    let first : nat_lt 0 (length text) ≡ true = grind (arith, nat_tests) in
    let second : nat_le (length text) 18 ≡ true = grind (arith, nat_tests) in
    is ∙ sym (ap (λ t. t && nat_le (length text) 18 && list_all is_ascii_digit text) first ∙ ap (λ t. true && t && list_all is_ascii_digit text) second)
