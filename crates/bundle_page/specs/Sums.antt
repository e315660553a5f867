-- The chances of those who have a value, added up. A chance is a volunteer's count over the total, so the counts are added. `chances` and
-- `page` print the sum over the total, which is the expected number of members with the value.
use Rattle.std.specs.Prelude.{ℕ, ◌==◌, List, filter, length, slice_index}
use Rattle.std.specs.List.{range_with_len, sum_by}
use Rattle.define_pools.specs.Pool.{Volunteer, volunteer}

-- the counts of those who have the value at `value_place` of the category at `category_place`, added up
abbrev pub count_with : List Volunteer → List ℕ → ℕ → ℕ → ℕ
count_with volunteers counts category_place value_place =
    sum_by (slice_index counts)
    (filter (λ i. slice_index (volunteer volunteers i).values category_place == value_place) (range_with_len 0 (length volunteers)))
