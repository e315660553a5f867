-- Chances of columns: how contracts see `Chance` and `Chances`.
use Rattle.std.specs.Prelude.{List, Option, ℤ}

-- a chance as a fraction
pub record Chance : Type 0 where
  pub num : ℤ
  pub den : ℤ

-- the chance of each column that is settled, and a common multiple of their denominators
pub record Settled : Type 0 where
  pub chances : List (Option Chance)
  pub common : ℤ
