-- Fronts: counts for the first classes. A front is live if it may still lead to a composition that is sought. Builds on Classes,
-- Compositions and the rows of `define_rows`. The searches enter live fronts.
use Rattle.std.specs.Prelude.{◌≡◌, ℕ, ◌+◌, ◌-◌, ◌^◌, ◌<◌, nat_le, if◌then◌else◌, Bool, true, ◌&&◌, List, [], ◌∷◌, ◌++◌, drop, length, map, replicate, take, fold, sum_by, ℤ, pos, ◌+ℤ◌, int_lt, int_le}
use Rattle.std.specs.List.{list_all, enumerate_from, AllByRecursion}
use Rattle.define_rows.specs.Row.{Row, reach}
use Rattle.define_searches.specs.declared.Bounds.{Bounds}
use Rattle.define_searches.specs.Classes.{Class, Classes}
use Rattle.define_searches.specs.Compositions.{taken_of, has_value, takes_one_a_household, weight_in}

-- the classes after a front
abbrev pub later_than : List ℕ → List Class → List Class
later_than front classes = drop (length front) classes

-- each of the rows has one entry per class
abbrev pub HaveEntries : Classes → List Row → Type 0
HaveEntries all rows = AllByRecursion (λ row. length row.a ≡ length all.classes) rows

-- the size of each class
abbrev pub sizes_of : Classes → List ℕ
sizes_of all = map (λ class. length class.members) all.classes

-- each of the rows has a reach below 2 ^ 127, so every weight in it fits 128 bits with a sign
abbrev pub HaveReach : Classes → List Row → Type 0
HaveReach all rows = AllByRecursion (λ row. reach (sizes_of all) row < 2 ^ 127) rows

-- the sum of `most` over those `later` classes that pass a test
abbrev pub most_given : (Class → Bool) → List Class → ℕ
most_given passes later = sum_by (λ class. if passes class then class.most else 0) later

-- how many members a front takes in all
abbrev pub taken_by : Classes → List ℕ → ℕ
taken_by all front = taken_of (λ class. true) all.classes front

-- `front` takes at most `size` members, and can reach `size` with all that the later classes can give
abbrev pub size_reachable : Classes → List ℕ → Bool
size_reachable all front =
    nat_le (taken_by all front) all.size && nat_le all.size (taken_by all front + most_given (λ class. true) (later_than front all.classes))

-- the front's count of value `v` is at most the upper bound, and can reach the lower bound with all that the later classes can give
abbrev pub value_reachable : Classes → List ℕ → ℕ → ℕ × Bounds → Bool
value_reachable all front c (v, bound) =
    let count = taken_of (has_value c v) all.classes front in
    nat_le count bound.upper && nat_le bound.lower (count + most_given (has_value c v) (later_than front all.classes))

abbrev pub values_reachable : Classes → List ℕ → Bool
values_reachable all front =
    list_all (λ (c, values). list_all (value_reachable all front c) (enumerate_from 0 values)) (enumerate_from 0 all.bounds)

-- a front is live for the first composition: size and values are within reach, and no household has two members taken
abbrev pub is_reachable : Classes → List ℕ → Bool
is_reachable all front = size_reachable all front && values_reachable all front && takes_one_a_household all.classes front

-- a number inserted into a falling list, in its place
abbrev pub put_falling : ℤ → List ℤ → List ℤ
put_falling x [] = x ∷ []
put_falling x (y ∷ ys) = if int_le y x then x ∷ (y ∷ ys) else y ∷ put_falling x ys

-- the numbers in falling order
abbrev pub falling : List ℤ → List ℤ
falling [] = []
falling (x ∷ xs) = put_falling x (falling xs)

-- each class's entry, as many times as the class can give members
abbrev pub units : List Class → List ℤ → List ℤ
units [] entries = []
units (class ∷ later) [] = []
units (class ∷ later) (x ∷ entries) = replicate class.most x ++ units later entries

abbrev pub sum_of : List ℤ → ℤ
sum_of xs = fold (λ total x. total +ℤ x) (pos 0) xs

-- the greatest sum of `count` units of the classes
abbrev pub greatest_sum : ℕ → List Class → List ℤ → ℤ
greatest_sum count classes entries = sum_of (take count (falling (units classes entries)))

-- the optimistic weight of a front: its weight in a row, plus the greatest sum of units of later classes, one unit for each member that the
-- front lacks
abbrev pub optimistic : Classes → Row → List ℕ → ℤ
optimistic all row front =
    weight_in row.a front +ℤ greatest_sum (all.size - taken_by all front) (later_than front all.classes) (drop (length front) row.a)

-- a front is live for the best composition above a floor: it is live for the first composition, and its optimistic weight is at least the
-- right side in each closed row and above the floor in the priced row
abbrev pub is_live_above : Classes → List Row → Row → ℤ → List ℕ → Bool
is_live_above all closed row floor front =
    is_reachable all front && list_all (λ r. int_le r.b (optimistic all r front)) closed && int_lt floor (optimistic all row front)
