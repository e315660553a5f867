-- The counts of teams by classes, and what they cost. Builds on Teams, and on Classes, Compositions and Fronts of `define_searches`. The
-- search for a least loosening uses these costs.
use Rattle.std.specs.Prelude.{ℕ, ◌+◌, ◌-◌, nat_lt, if◌then◌else◌, List, [], ◌∷◌, map, sum_by, Option, Some, None}
use Rattle.std.specs.List.{enumerate_from}
use Rattle.define_searches.specs.declared.Bounds.{Bounds}
use Rattle.define_searches.specs.Classes.{Classes}
use Rattle.define_searches.specs.Compositions.{compositions, has_value, taken_of}
use Rattle.define_searches.specs.Fronts.{later_than, most_given}
use Rattle.define_quotas.specs.Teams.{missed_by}

-- the classes with the widest bounds that a pool may have
abbrev pub widened : Classes → Classes
widened all = record all { bounds = map (λ values. map (λ bound. record { lower = 0; upper = 999 }) values) all.bounds }

-- the counts of all teams: the compositions if the bounds are the widest
abbrev pub team_counts : Classes → List (List ℕ)
team_counts all = compositions (widened all)

-- the sum over values of how far the count of members with the value is below its lower or above its upper bound
abbrev pub cost : Classes → List ℕ → ℕ
cost all counts =
    sum_by (λ (c, values).
    sum_by (λ (v, bound). missed_by bound.lower bound.upper (taken_of (has_value c v) all.classes counts)) (enumerate_from 0 values))
    (enumerate_from 0 all.bounds)

-- the least amount by which a number misses its bounds if it may still grow by up to `more`
abbrev pub surely_missed : Bounds → ℕ → ℕ → ℕ
surely_missed bound number more = (bound.lower - (number + more)) + (number - bound.upper)

-- the sure cost of a front: a lower bound for the cost of all counts that begin with it
abbrev pub sure_cost : Classes → List ℕ → ℕ
sure_cost all front =
    sum_by (λ (c, values).
    sum_by (λ (v, bound). surely_missed bound (taken_of (has_value c v) all.classes front) (most_given (has_value c v) (later_than front all.classes)))
    (enumerate_from 0 values))
    (enumerate_from 0 all.bounds)

-- `later` if it has counts that cost less than `counts`, else `counts`
abbrev pub cheaper : (List ℕ → ℕ) → List ℕ → Option (List ℕ) → List ℕ
cheaper cost counts None = counts
cheaper cost counts (Some later) = if nat_lt (cost later) (cost counts) then later else counts

-- the cheapest of the lists of counts; if several cost the same, the first of these
abbrev pub first_cheapest : (List ℕ → ℕ) → List (List ℕ) → Option (List ℕ)
first_cheapest cost [] = None
first_cheapest cost (counts ∷ rest) = Some (cheaper cost counts (first_cheapest cost rest))

-- the cheapest of the counts of all teams; if several cost the same, the first of these
abbrev pub cheapest_team : Classes → Option (List ℕ)
cheapest_team all = first_cheapest (cost all) (team_counts all)
