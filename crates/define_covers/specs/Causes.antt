-- When the cause of a front applies. A front is live, as a check's search has it, exactly if no cause applies. Builds on Covers, and on
-- Fronts of `define_searches`. CoverVerdict uses it.
use Rattle.std.specs.Prelude.{ℕ, ◌==◌, Bool, not, ◌&&◌, List, map, reverse, int_lt, int_le}
use Rattle.std.specs.List.{enumerate_from, flat_map, list_any}
use Rattle.define_rows.specs.Row.{Row}
use Rattle.define_searches.specs.declared.Bounds.{Bounds}
use Rattle.define_searches.specs.Classes.{Classes}
use Rattle.define_searches.specs.Compositions.{takes_one_a_household}
use Rattle.define_searches.specs.Fronts.{optimistic, size_reachable, value_reachable}
use Rattle.define_covers.specs.Covers.{ByCap, ByClosed, ByHousehold, BySize, ByValue, Cause}

-- the values of all categories in order: the number of the category, the number of the value in it, each counted from 0, and the bounds
abbrev pub all_values : Classes → List (ℕ × (ℕ × Bounds))
all_values all = flat_map (λ (c, values). map (λ value. (c, value)) (enumerate_from 0 values)) (enumerate_from 0 all.bounds)

-- there is a value with this number, counted from 1 over all categories, and the front can't keep its bounds
abbrev pub value_fails : Classes → List ℕ → ℕ → Bool
value_fails all front number =
    list_any (λ (v, value). v == number && not (value_reachable all front value.0 value.1)) (enumerate_from 1 (all_values all))

-- there is a closed row with this number, counted from 1, and the front can't attain its right side. `closed` has the latest row first
abbrev pub closed_fails : Classes → List Row → List ℕ → ℕ → Bool
closed_fails all closed front number =
    list_any (λ (r, row). r == number && int_lt (optimistic all row front) row.b) (enumerate_from 1 (reverse closed))

-- the cause applies to the front in a search that is to attain the closed rows and to exceed the right side of `row`. The causes of weights
-- apply only if the size can be reached, since the optimistic weight means nothing otherwise
abbrev pub applies : Classes → List Row → Row → List ℕ → Cause → Bool
applies all closed row front BySize = not (size_reachable all front)
applies all closed row front (ByValue number) = value_fails all front number
applies all closed row front ByHousehold = not (takes_one_a_household all.classes front)
applies all closed row front (ByClosed number) = size_reachable all front && closed_fails all closed front number
applies all closed row front ByCap = size_reachable all front && int_le (optimistic all row front) row.b
