-- A number with one more digit.
use Rattle.std.proofs.Common.{◌≡◌, ◌<◌, ◌+◌, ◌-◌, ◌*◌, ◌^◌, add-one, ap, ℕ, arith, true, leb}
use Rattle.std.specs.Char.{digit_value, is_ascii_digit}
use Rattle.std.specs.Int.{IsInRange}
use Rattle.std.proofs.Math.Nat.{pow-suc}
use Rattle.std.proofs.lemmas.Bool.{and_parts, leb-true}
use Rattle.std.proofs.lemmas.Str.{digit_value_digit}

pub digit_in_range : (byte : ℕ) → is_ascii_digit byte ≡ true → IsInRange 48 57 byte
digit_in_range byte h = let parts = and_parts (leb 48 byte) (leb byte 57) h in (leb-true 48 byte parts.0, leb-true byte 57 parts.1)

pub one_more_digit : (number digit i : ℕ) → IsInRange 48 57 digit → number < 10 ^ i → (number * 10 + (digit - 48) ≡ number * 10 + digit_value digit) × (number * 10 + (digit - 48) < 10 ^ (i + 1))
one_more_digit number digit i range small =
    let own : digit_value digit + 48 ≡ digit = digit_value_digit digit range in
    let value : digit - 48 ≡ digit_value digit = other (digit_value digit) own in
    (ap (λ d. number * 10 + d) value, rw (add-one, pow-suc 10 i) (below (10 ^ i) small))
  where
    other : (v : ℕ) → v + 48 ≡ digit → digit - 48 ≡ v
    other v e = omega arith

    below : (power : ℕ) → number < power → number * 10 + (digit - 48) < power * 10
    below power h = let high = range.1 in omega arith
