-- Fractions of whole numbers, in lowest terms. Builds on Divisors. The exact table, spreading, the run, and the texts that show chances use
-- it.
use Rattle.std.specs.Prelude.{◌≡◌, ℕ, ◌/◌, ◌<◌, List, ◌∷◌, ◌++◌}
use Rattle.std.specs.Fmt.{decimal}
use Rattle.frac128.specs.Divisors.{gcd_of}

-- the fraction num/den
pub record Fraction : Type 0 where
  pub num : ℕ
  pub den : ℕ

-- num/den is in lowest terms: den is at least 1, and no number above 1 divides both
abbrev pub IsLowest : ℕ → ℕ → Type 0
IsLowest num den = (0 < den) × (gcd_of num den ≡ 1)

-- the fraction num/den in lowest terms
abbrev pub lowest_of : ℕ → ℕ → Fraction
lowest_of num den = record { num = num / gcd_of num den; den = den / gcd_of num den }

-- the text of a fraction: `num/den`, in decimal digits
abbrev pub fraction_text : Fraction → List ℕ
fraction_text f = decimal f.num ++ 47 ∷ decimal f.den
