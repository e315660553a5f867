-- The ranges of the numbers in the lines of a cover's trees. Within them a line has a text. Builds on Covers. `define_covers` keeps to
-- them.
use Rattle.std.specs.Prelude.{ℕ, ◌-◌, nat_lt, nat_le, Bool, true, ◌&&◌, length, sum_by}
use Rattle.std.specs.List.{list_all}
use Rattle.define_pools.specs.declared.Limits.TheVariants.{Large}
use Rattle.define_pools.specs.Pool.{Pool, limits_for, most_volunteers}
use Rattle.define_covers.specs.Covers.{ByCap, ByClosed, ByHousehold, BySize, ByValue, Cause, FrontLine}

-- the greatest count of a front in a pool of `volunteers`
abbrev pub most_count : ℕ → ℕ
most_count volunteers = most_volunteers (limits_for volunteers)

-- the greatest count of a front in any pool
abbrev pub greatest_count : ℕ
greatest_count = most_volunteers Large

-- how many values all categories have
abbrev pub value_count : Pool → ℕ
value_count pool = sum_by (λ category. length category.values) pool.categories

-- `number` is from 1 to `last`
abbrev pub is_numbered : ℕ → ℕ → Bool
is_numbered last number = nat_lt 0 number && nat_le number last

-- the number of a value, if the cause has one, is that of a value of the pool; the number of an earlier stage is below `stage`, which is the
-- number of the tree's stage, counted from 1
abbrev pub is_cause : Pool → ℕ → Cause → Bool
is_cause pool stage BySize = true
is_cause pool stage (ByValue number) = is_numbered (value_count pool) number
is_cause pool stage ByHousehold = true
is_cause pool stage (ByClosed number) = is_numbered (stage - 1) number
is_cause pool stage ByCap = true

-- the cause is in its range, and the front has at most one count per volunteer, each at most `most_count`
abbrev pub is_front_line : Pool → ℕ → FrontLine → Bool
is_front_line pool stage line =
    is_cause pool stage line.cause && nat_le (length line.front) (length pool.volunteers) && list_all (λ c. nat_le c (most_count (length pool.volunteers))) line.front
