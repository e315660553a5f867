-- Fronts, the compositions that begin with a front, the best of them, and the search below a front with a floor of its own. Builds on
-- Classes, Compositions, Fronts and Visits of `define_searches`. `panel_search` searches this way.
use Rattle.std.specs.Prelude.{ℕ, ◌==◌, ◌≤◌, ◌<◌, if◌then◌else◌, Bool, IsTrue, List, filter, map, length, slice_index, Contains, ℤ, int_lt, Option, None}
use Rattle.std.specs.List.{starts_with}
use Rattle.define_rows.specs.Row.{Row}
use Rattle.define_searches.specs.Classes.{Class, Classes}
use Rattle.define_searches.specs.Compositions.{attains, compositions, first_greatest, weight_in}
use Rattle.define_searches.specs.Fronts.{is_live_above, later_than}
use Rattle.define_searches.specs.Visits.{Pricing, enter_best}

-- a front: counts for the first classes, each from the class's least to its most
pub record IsFront (all : Classes) (front : List ℕ) : Type 0 where
  pub few : length front ≤ length all.classes
  pub least : (t : ℕ) → t < length front → slice_index (map (λ class. class.least) all.classes) t ≤ slice_index front t
  pub most : (t : ℕ) → t < length front → slice_index front t ≤ slice_index (map (λ class. class.most) all.classes) t

-- the list `counts` begins with `front`
abbrev pub begins_with : List ℕ → List ℕ → Bool
begins_with front counts = starts_with (λ c d. c == d) counts front

-- the compositions that begin with this front, in the order of `compositions`
abbrev pub below : Classes → List ℕ → List (List ℕ)
below all front = filter (begins_with front) (compositions all)

-- the best composition below a front: among those that attain the closed rows and weigh more in the row than a floor, the first of greatest
-- weight
abbrev pub best_below : Classes → List Row → Row → List ℕ → ℤ → Option (List ℕ)
best_below all closed row front floor = first_greatest (weight_in row.a) floor (filter (attains closed) (below all front))

-- `counts` is a composition that begins with `front`, attains the closed rows, and weighs more than `floor` in `row`
pub record QualifiesBelow (all : Classes) (closed : List Row) (row : Row) (front : List ℕ) (floor : ℤ) (counts : List ℕ) : Type 0 where
  pub composition : Contains (compositions all) counts
  pub begun : IsTrue (begins_with front counts)
  pub attained : IsTrue (attains closed counts)
  pub above : IsTrue (int_lt floor (weight_in row.a counts))

-- the search goes on from a child if the child is live; else it makes no visit
abbrev pub child_best : Classes → List Row → Row → List Class → List ℕ → Pricing → Pricing
child_best all closed row later child now = if is_live_above all closed row now.floor child then enter_best all closed row later child now else now

-- the search below a front with a floor of its own: if the front isn't live above the floor, it makes no visit
abbrev pub search_from : Classes → List Row → Row → List ℕ → ℤ → Pricing
search_from all closed row front floor = child_best all closed row (later_than front all.classes) front (record { visits = 0; floor = floor; kept = None })
