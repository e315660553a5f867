-- The one spelling of a number: digits without a leading zero, after `-` if the number is below 0. The definitions of each text use it, and
-- so do the crates that read and write texts.
use Rattle.std.specs.Prelude.{ℕ, ℤ, nat_le, if◌then◌else◌, ◌&&◌, List, bytes_eq, unsigned_abs, Option, Some, None}
use Rattle.std.specs.Fmt.{decimal, signed_decimal}
use Rattle.std.specs.Str.Parse.{digits_value, signed_digits_value}

-- the number that a field spells; None if it spells none or one above `limit`
abbrev pub number_up_to : ℕ → List ℕ → Option ℕ
number_up_to limit field =
    let number = digits_value 10 field in
    if bytes_eq (decimal number) field && nat_le number limit then Some number else None

-- the whole number that a field spells; None if it spells none or one with an absolute value above `limit`
abbrev pub signed_up_to : ℕ → List ℕ → Option ℤ
signed_up_to limit field =
    let number = signed_digits_value 10 field in
    if bytes_eq (signed_decimal number) field && nat_le (unsigned_abs number) limit then Some number else None
