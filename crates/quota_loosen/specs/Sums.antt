-- Whether at most 999 of a team's members have each value so far; and the least number of people by which the team will miss the bounds,
-- given how many more may at most be added. Both numbers are kept in cells, one for each value. The contracts of `tallies` cite it.
use Rattle.std.specs.Prelude.{ℕ, ◌≤◌, ◌<◌, nat_le, All, Bool, List, slice_index, sum_by}
use Rattle.std.specs.List.{enumerate_from, list_all}
use Rattle.define_quotas.specs.Costs.{surely_missed}
use Rattle.define_searches.specs.declared.Bounds.{Bounds}
use Rattle.define_searches.specs.Tallies.{cell}

-- each value's lower bound is at most its upper bound, which is at most 999
abbrev pub AreLimited : List (List Bounds) → Type 0
AreLimited bounds = All (λ values. All (λ bound. (bound.lower ≤ bound.upper) × (bound.upper ≤ 999)) values) bounds

-- the cells of a category are at most 1000000
abbrev pub AreSmallIn : ℕ → List ℕ → Type 0
AreSmallIn category cells = (v : ℕ) → v < 50 → slice_index cells (cell category v) ≤ 1000000

-- the cells of a category's values are at most 999
abbrev pub are_few : List Bounds → List ℕ → ℕ → Bool
are_few values held category = list_all (λ (v, bound). nat_le (slice_index held (cell category v)) 999) (enumerate_from 0 values)

-- the least sum by which the values of a category will miss their bounds, if `held` has their numbers so far, and `later` the most that
-- may be added
abbrev pub missed_in : List Bounds → List ℕ → List ℕ → ℕ → ℕ
missed_in values held later category =
    sum_by (λ (v, bound). surely_missed bound (slice_index held (cell category v)) (slice_index later (cell category v))) (enumerate_from 0 values)

-- the sum of `missed_in` over all categories
abbrev pub missed_in_all : List (List Bounds) → List ℕ → List ℕ → ℕ
missed_in_all bounds held later = sum_by (λ (c, values). missed_in values held later c) (enumerate_from 0 bounds)
