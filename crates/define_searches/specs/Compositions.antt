-- Compositions: how many members of each class are taken. Builds on Classes and on the rows of `define_rows`. The searches find them.
use Rattle.std.specs.Prelude.{ℕ, zero, suc, ◌+◌, ◌-◌, ◌==◌, nat_le, if◌then◌else◌, Bool, true, false, ◌&&◌, ◌||◌, List, [], ◌∷◌, map, count_by, filter, slice_get, slice_index, take, ℤ, int_lt, int_le, Option, Some, None, unwrap_or}
use Rattle.std.specs.List.{list_all, flat_map, enumerate_from, range_with_len}
use Rattle.define_pools.specs.Lists.{includes}
use Rattle.define_rows.specs.Row.{Row, sum_of_products}
use Rattle.define_searches.specs.declared.Bounds.{Bounds}
use Rattle.define_searches.specs.Classes.{Class, Classes, volunteer_count}

-- the counts from `least + more` down to `least`
abbrev pub counts_down : ℕ → ℕ → List ℕ
counts_down least zero = least ∷ []
counts_down least (suc more) = (least + suc more) ∷ counts_down least more

-- the counts that a class may have, the greatest first
abbrev pub counts_of : Class → List ℕ
counts_of class = counts_down class.least (class.most - class.least)

-- all lists with a count for each class, in order: class by class, the greater count first
abbrev pub all_counts : List Class → List (List ℕ)
all_counts [] = [] ∷ []
all_counts (class ∷ classes) = flat_map (λ c. map (λ counts. c ∷ counts) (all_counts classes)) (counts_of class)

-- the sum of the counts of those classes that pass a test
abbrev pub taken_of : (Class → Bool) → List Class → List ℕ → ℕ
taken_of passes [] counts = 0
taken_of passes (class ∷ classes) [] = 0
taken_of passes (class ∷ classes) (c ∷ counts) = (if passes class then c else 0) + taken_of passes classes counts

-- the members of a class have this value of this category
abbrev pub has_value : ℕ → ℕ → Class → Bool
has_value category value class = slice_index class.values category == value

-- a count is within bounds
abbrev pub lies_within : Bounds → ℕ → Bool
lies_within bound count = nat_le bound.lower count && nat_le count bound.upper

-- for each value, the count of members who have it is within its bounds
abbrev pub meets_bounds : List (List Bounds) → List Class → List ℕ → Bool
meets_bounds bounds classes counts =
    list_all (λ (c, values).
    list_all (λ (v, bound). lies_within bound (taken_of (has_value c v) classes counts)) (enumerate_from 0 values))
    (enumerate_from 0 bounds)

-- there is a household number, and it is `h`
abbrev pub is_of_household : ℕ → Option ℕ → Bool
is_of_household h None = false
is_of_household h (Some number) = number == h

-- if there is a household number, at most one member of that household is taken
abbrev pub takes_one_of : List Class → List ℕ → Option ℕ → Bool
takes_one_of classes counts None = true
takes_one_of classes counts (Some h) = nat_le (taken_of (λ class. is_of_household h class.household) classes counts) 1

-- no household has two members taken
abbrev pub takes_one_a_household : List Class → List ℕ → Bool
takes_one_a_household classes counts = list_all (λ class. takes_one_of classes counts class.household) classes

-- the counts sum to the size, the count of each value is within its bounds, and no household has two members taken
abbrev pub is_composition : Classes → List ℕ → Bool
is_composition all counts =
    taken_of (λ class. true) all.classes counts == all.size && meets_bounds all.bounds all.classes counts && takes_one_a_household all.classes counts

-- all compositions, in the order of `all_counts`
abbrev pub compositions : Classes → List (List ℕ)
compositions all = filter (is_composition all) (all_counts all.classes)

-- the first of all compositions, or None if there is none
abbrev pub first_composition : Classes → Option (List ℕ)
first_composition all = slice_get (compositions all) 0

-- volunteer `i` is taken: a class with the count `c` has `i` among its first `c` members
abbrev pub is_taken : List Class → List ℕ → ℕ → Bool
is_taken [] counts i = false
is_taken (class ∷ classes) [] i = false
is_taken (class ∷ classes) (c ∷ counts) i = includes (take c class.members) i || is_taken classes counts i

-- the first members of each class, as many as the counts take, in number order
abbrev pub first_panel : Classes → List ℕ → List ℕ
first_panel all counts = filter (is_taken all.classes counts) (range_with_len 0 (volunteer_count all))

-- how many members of a panel are of each class
abbrev pub composition_of : Classes → List ℕ → List ℕ
composition_of all panel = map (λ class. count_by (includes class.members) panel) all.classes

-- a composition's weight in a row: the sum of count times entry
abbrev pub weight_in : List ℤ → List ℕ → ℤ
weight_in entries counts = sum_of_products counts entries

-- a composition's weight in each closed row is at least that row's right side
abbrev pub attains : List Row → List ℕ → Bool
attains closed counts = list_all (λ row. int_le row.b (weight_in row.a counts)) closed

-- the first list of greatest weight among those that weigh more than a floor
abbrev pub first_greatest : (List ℕ → ℤ) → ℤ → List (List ℕ) → Option (List ℕ)
first_greatest weight floor [] = None
first_greatest weight floor (counts ∷ rest) =
    if int_lt floor (weight counts) then Some (unwrap_or (first_greatest weight (weight counts) rest) counts) else first_greatest weight floor rest

-- the best composition: the first of greatest weight in the row, above its right side, among those that attain the closed rows
abbrev pub price : Classes → List Row → Row → Option (List ℕ)
price all closed row = first_greatest (weight_in row.a) row.b (filter (attains closed) (compositions all))
