-- Numbers with a fixed number of places after the point. `command_questions` and `bundle_page` cite it.
use Rattle.std.specs.Prelude.{ℕ, zero, suc, ◌+◌, ◌*◌, ◌/◌, ◌%◌, ◌^◌, List, [], ◌∷◌, ◌++◌}
use Rattle.std.specs.Fmt.{decimal}

-- the last `count` digits of a number; zeros come first if it has fewer
abbrev pub last_digits : ℕ → ℕ → List ℕ
last_digits zero number = []
last_digits (suc count) number = last_digits count (number / 10) ++ (48 + number % 10) ∷ []

-- the text of `number / 10 ^ places`, with `places` digits after the point
abbrev pub fixed_point : ℕ → ℕ → List ℕ
fixed_point places number = decimal (number / 10 ^ places) ++ 46 ∷ last_digits places number

-- `part / whole` in ten-thousandths, rounded to the nearest number, and up from a half
abbrev pub ten_thousandths : ℕ → ℕ → ℕ
ten_thousandths part whole = (2 * 10000 * part + whole) / (2 * whole)
