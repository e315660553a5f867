-- Units beside a weight: how many are heavier, how many are no lighter, and what the heavier ones sum to. The contracts of `units` cite it.
use Rattle.std.specs.Prelude.{◌≡◌, ℕ, ◌+◌, if◌then◌else◌, Bool, List, [], ◌∷◌, ℤ, pos, ◌+ℤ◌, int_lt, int_le}
use Rattle.panel_search.specs.declared.units.Beside.{Beside}

-- how many of the units pass a test
abbrev pub units_with : (ℤ → Bool) → List ℤ → ℕ
units_with passes [] = 0
units_with passes (x ∷ units) = (if passes x then 1 else 0) + units_with passes units

-- how many of the units weigh more than `weight`
abbrev pub heavier : ℤ → List ℤ → ℕ
heavier weight units = units_with (int_lt weight) units

-- how many of the units weigh at least `weight`
abbrev pub no_lighter : ℤ → List ℤ → ℕ
no_lighter weight units = units_with (int_le weight) units

-- the sum of the units that weigh more than `weight`
abbrev pub heavier_sum : ℤ → List ℤ → ℤ
heavier_sum weight [] = pos 0
heavier_sum weight (x ∷ units) = (if int_lt weight x then x else pos 0) +ℤ heavier_sum weight units

-- `beside` counts and sums the units beside `weight`
pub record IsBeside (units : List ℤ) (weight : ℤ) (beside : Beside) : Type 0 where
  pub above : beside.heavier ≡ heavier weight units
  pub sum : beside.sum ≡ heavier_sum weight units
  pub from : beside.no_lighter ≡ no_lighter weight units
