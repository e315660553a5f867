-- Households by number, so that the households of a panel's members are compared as numbers. The contracts of src/quotas.rt and
-- src/lotteries.rt cite it.
use Rattle.std.specs.Prelude.{ℕ, ◌==◌, Bool, true, not, ◌&&◌, ◌||◌, List, [], ◌∷◌, length, map, unwrap_or}
use Rattle.std.specs.List.{find, range_with_len}
use Rattle.define_pools.specs.Lists.{includes}
use Rattle.define_pools.specs.Pool.{Volunteer, share_household}

-- the number of a volunteer's household: that of its first member; without a household, the volunteer's own
abbrev pub household_number : List Volunteer → ℕ → ℕ
household_number volunteers i = unwrap_or (find (λ j. j == i || share_household volunteers i j) (range_with_len 0 (length volunteers))) i

-- the number of each volunteer's household
abbrev pub household_numbers : List Volunteer → List ℕ
household_numbers volunteers = map (household_number volunteers) (range_with_len 0 (length volunteers))

-- no number comes twice
abbrev pub none_twice : List ℕ → Bool
none_twice [] = true
none_twice (x ∷ xs) = not (includes xs x) && none_twice xs
