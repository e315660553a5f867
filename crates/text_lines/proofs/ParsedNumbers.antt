-- How std's parse reads a number in its one spelling.
use Rattle.std.proofs.Common.{◌≡◌, ℕ, ◌-◌, ◌<◌, ◌≤◌, ◌^◌, true, List, false, ℤ, pos, negsuc, zero, suc, FitsSigned, ◌∙◌, sym, ap, subst, arith, Some, None}
use Rattle.std.specs.Int.{w128}
use Rattle.std.specs.Prelude.{Result, Ok, Err, bytes_eq, unsigned_abs}
use Rattle.std.specs.Fmt.{decimal, signed_decimal}
use Rattle.std.specs.Str.{IsAscii, IsUtf8}
use Rattle.std.specs.Str.Parse.{ParsesUnsigned, ParsesSigned}
use Rattle.std.proofs.lemmas.Fmt.{IsAscii-decimal_wide, parse-decimal_wide}
use Rattle.std.proofs.lemmas.Bool.{false≢true}
use Rattle.std.proofs.lemmas.Str.{IsUtf8-from_ascii}
use Rattle.define_lines.specs.Numbers.{number_up_to, signed_up_to}
use Rattle.define_lines.proofs.NumberLemmas.{bytes_are, bytes_same, number_again, no_number, no_signed, signed_value, signed_numeral}

-- If the field is the digits of `n`, and `n` is at most `limit`, the field spells `n`.
pub found : (limit n : ℕ) (field : List ℕ) → n < 10 ^ 64 → n ≤ limit → bytes_eq (decimal n) field ≡ true → Some n ≡ number_up_to limit field
found limit n field small h same = sym (subst (λ f. number_up_to limit f ≡ Some n) (bytes_are (decimal n) field same) (number_again limit n small h))

-- If a field isn't UTF-8, it spells no number.
pub not_text : (limit : ℕ) (field : List ℕ) → limit < 2 ^ 64 → (IsUtf8 field → ⊥) → None ≡ number_up_to limit field
not_text limit field fits h =
    sym (no_number limit field (λ n l e. h (subst IsUtf8 e (IsUtf8-from_ascii (decimal n) (IsAscii-decimal_wide n (omega arith))))))

-- If the field is the digits of `n`, parsing it returns `n`.
parsed : {E : Type 0} (n : ℕ) (field : List ℕ) (r : Result ℕ E) → n < 2 ^ 64 → decimal n ≡ field → ParsesUnsigned 64 10 field r → r ≡ Ok n
parsed n field r fits e h = parse-decimal_wide 64 n field r fits (omega arith) (sym e) h

-- If parsing a field fails, the field spells no number.
pub not_parsed : {E : Type 0} (limit : ℕ) (field : List ℕ) (error : E) → limit < 2 ^ 64 → ParsesUnsigned 64 10 field (Err error) → None ≡ number_up_to limit field
not_parsed limit field error fits h = sym (no_number limit field (λ n l e. let is = parsed n field (Err error) (omega arith) e h in cc))

-- If parsing a field returns `m`, but the field isn't the digits of `m`, the field spells no number up to `limit`.
pub not_spelled : {E : Type 0} (limit m : ℕ) (field : List ℕ) (r : Result ℕ E) → limit < 2 ^ 64 → ParsesUnsigned 64 10 field r → r ≡ Ok m → bytes_eq (decimal m) field ≡ false → None ≡ number_up_to limit field
not_spelled limit m field r fits h is other =
    sym (no_number limit field (λ n l e.
    let again = parsed n field r (omega arith) e h in let same : m ≡ n = cc in
    false≢true (sym other ∙ bytes_same (decimal m) field (ap decimal same ∙ e))))

-- If parsing a field returns `m`, and `m` is above `limit`, the field spells no number up to `limit`.
pub too_great : {E : Type 0} (limit m : ℕ) (field : List ℕ) (r : Result ℕ E) → limit < 2 ^ 64 → ParsesUnsigned 64 10 field r → r ≡ Ok m → limit < m → None ≡ number_up_to limit field
too_great limit m field r fits h is above =
    sym (no_number limit field (λ n l e. let again = parsed n field r (omega arith) e h in let same : m ≡ n = cc in omega arith))

-- If a field isn't UTF-8, it spells no signed number.
pub not_signed_text : (field : List ℕ) → (IsUtf8 field → ⊥) → None ≡ signed_up_to (2 ^ 127 - 1) field
not_signed_text field h = sym (no_signed (2 ^ 127 - 1) field (λ z l e. h (subst IsUtf8 e (IsUtf8-from_ascii (signed_decimal z) (ascii z (omega arith))))))
  where
    ascii : (z : ℤ) → unsigned_abs z < 10 ^ 64 → IsAscii (signed_decimal z)
    ascii (pos n) small i = IsAscii-decimal_wide n small i
    ascii (negsuc n) small zero = omega arith
    ascii (negsuc n) small (suc i) = IsAscii-decimal_wide (suc n) small i

-- If parsing a field as a signed number fails, the field spells no signed number of up to 2^127 - 1 by absolute value.
pub not_signed_parsed : {E : Type 0} (field : List ℕ) (error : E) → ParsesSigned w128 10 field (Err error) → None ≡ signed_up_to (2 ^ 127 - 1) field
not_signed_parsed field error h =
    sym (no_signed (2 ^ 127 - 1) field (λ z l e.
    let value = signed_value z (omega arith) in
    subst (λ f. ParsesSigned w128 10 f (Err error)) (sym e) h (signed_numeral z (omega arith), subst (FitsSigned w128) (sym value) (fits z l))))
  where
    fits : (z : ℤ) → unsigned_abs z ≤ 2 ^ 127 - 1 → FitsSigned w128 z
    fits (pos n) l = record { sfits = omega arith }
    fits (negsuc n) l = record { sfits = omega arith }
