-- Digits that name a ticket are UTF-8.
use Rattle.std.proofs.Common.{◌≡◌, ℕ, ◌<◌, Bool, true, false, not, List, length, get_or, ltb, Option, Some, None, refl, arith}
use Rattle.std.specs.Prelude.{is_ok, position}
use Rattle.std.specs.Char.{is_ascii_digit}
use Rattle.std.specs.Str.{IsUtf8}
use Rattle.std.proofs.lemmas.Bool.{false≢true, ltb-false, ltb-true, not-false}
use Rattle.std.proofs.lemmas.List.{get_or_past}
use Rattle.std.proofs.lemmas.Str.{IsUtf8-from_ascii}
use Rattle.define_pools.proofs.Found.{position-None}
use Rattle.define_draws.specs.Dice.{name_ticket, named_but}
use Rattle.office_desk.proofs.Digits.{digit_in_range}

digit_below : (byte : ℕ) → is_ascii_digit byte ≡ true → byte < 128
digit_below byte h =
    let range = digit_in_range byte h in
    let high = range.1 in
    omega arith

byte_below : (digits : List ℕ) (i : ℕ) (b : Bool) → position (λ byte. not (is_ascii_digit byte)) digits ≡ None → ltb i (length digits) ≡ b → get_or digits i 0 < 128
byte_below digits i true e l = digit_below (get_or digits i 0) (not-false (is_ascii_digit (get_or digits i 0)) (position-None (λ byte. not (is_ascii_digit byte)) digits i 0 e (ltb-true i (length digits) l)))
byte_below digits i false e l =
    let none : get_or digits i 0 ≡ 0 = get_or_past digits i 0 (ltb-false i (length digits) l) in
    omega (arith, none)

named_with : (total : ℕ) (digits : List ℕ) (place : Option ℕ) → position (λ byte. not (is_ascii_digit byte)) digits ≡ place → is_ok (named_but total digits place) ≡ true → IsUtf8 digits
named_with total digits None e h = IsUtf8-from_ascii digits (λ i. byte_below digits i (ltb i (length digits)) e refl)
named_with total digits (Some place) e h = absurd (false≢true h)

pub named_utf8 : (total : ℕ) (digits : List ℕ) → is_ok (name_ticket total digits) ≡ true → IsUtf8 digits
named_utf8 total digits h = named_with total digits (position (λ byte. not (is_ascii_digit byte)) digits) refl h
