-- Quotas and selections; by how many people a selection misses quotas; and conflicts. Builds on Pool and Lists of `define_pools`, and on
-- Leaves of `define_proofs` for the list of standings. An auditor of `why` reads this file and OnlyQuotas.
use Rattle.std.specs.Prelude.{ℕ, ◌-◌, ◌==◌, ◌≤◌, ◌<◌, nat_lt, Bool, false, true, not, ◌&&◌, ◌||◌, IsTrue, List, [], length, count_by, sum_by, slice_index, slice_index_or, Option, unwrap_or}
use Rattle.std.specs.List.{enumerate_from, list_all, list_any, range_with_len, remove}
use Rattle.define_proofs.specs.Leaves.{standings}
use Rattle.define_pools.specs.declared.Standing.{Standing}
use Rattle.define_pools.specs.Lists.{includes, is_increasing}
use Rattle.define_pools.specs.Pool.{BoundedValue, Category, Pool, allows, share_household, volunteer}
use Rattle.define_quotas.specs.declared.Counted.{Counted}
use Rattle.define_quotas.specs.declared.Counted.TheVariants.{Everybody, WithValue, OfHousehold}
use Rattle.define_quotas.specs.declared.Quota.{Quota}
use Rattle.define_quotas.specs.declared.Side.{Side}
use Rattle.define_quotas.specs.declared.Side.TheVariants.{AtLeast, AtMost}

-- volunteer `i` is among those whom a quota counts
abbrev pub is_counted : Pool → Counted → ℕ → Bool
is_counted pool Everybody i = true
is_counted pool (WithValue category value) i = slice_index (volunteer pool.volunteers i).values category == value
is_counted pool (OfHousehold member) i = share_household pool.volunteers member i

-- the category at place `place`; if there is none, one without values
abbrev pub category_at : Pool → ℕ → Category
category_at pool place = slice_index_or pool.categories place (record { name = []; values = [] })

-- the value at place `value` of a category; if there is none, one with bounds of 0
abbrev pub value_in : Category → ℕ → BoundedValue
value_in category value = slice_index_or category.values value (record { name = []; lower = 0; upper = 0 })

abbrev pub value_at : Pool → ℕ → ℕ → BoundedValue
value_at pool category value = value_in (category_at pool category) value

-- the bound of a value at a side
abbrev pub side_bound : Side → BoundedValue → ℕ
side_bound AtLeast value = value.lower
side_bound AtMost value = value.upper

-- the bound of a quota, by its side and whom it counts
abbrev pub bound_of : Pool → Side → Counted → ℕ
bound_of pool side Everybody = pool.size
bound_of pool side (WithValue category value) = side_bound side (value_at pool category value)
bound_of pool AtLeast (OfHousehold member) = 0
bound_of pool AtMost (OfHousehold member) = 1

-- the bound of a quota: the least or the greatest number of a panel's members whom it counts
abbrev pub bound : Pool → Quota → ℕ
bound pool quota = bound_of pool quota.side quota.counted

-- the pool has the category and the value that a quota names to say whom it counts, or the volunteer, who is the first of a household
abbrev pub is_counted_of : Pool → Counted → Bool
is_counted_of pool Everybody = true
is_counted_of pool (WithValue category value) = nat_lt category (length pool.categories) && nat_lt value (length (category_at pool category).values)
is_counted_of pool (OfHousehold member) =
    nat_lt member (length pool.volunteers) && share_household pool.volunteers member member && not (list_any (share_household pool.volunteers member) (range_with_len 0 member))

-- the quota is one of the pool's: the pool has what it names
abbrev pub is_quota_of : Pool → Quota → Bool
is_quota_of pool quota = is_counted_of pool quota.counted

-- ---- selections

-- the selection has everyone who is seated and no one who is gone; the first standing is that of volunteer `first`
abbrev pub keeps : List ℕ → ℕ → List Standing → Bool
keeps selection first all = list_all (λ (i, standing). allows standing (includes selection i)) (enumerate_from first all)

-- an increasing list of numbers of volunteers, of any length, that keeps the standings `all`
abbrev pub is_selection_at : List Standing → List ℕ → Bool
is_selection_at all selection = is_increasing selection && list_all (λ i. nat_lt i (length all)) selection && keeps selection 0 all

-- an increasing list of numbers of volunteers, of any length, with everyone who is seated and no one who is gone
abbrev pub is_selection : Pool → List ℕ → Bool
is_selection pool selection = is_selection_at (standings pool) selection

-- ---- misses

-- by how many people a number misses a bound
abbrev pub missed : Side → ℕ → ℕ → ℕ
missed AtLeast least number = least - number
missed AtMost greatest number = number - greatest

-- by how many people a selection misses a quota: how many of those whom the quota counts are wanting, or are too many
abbrev pub miss : Pool → List ℕ → Quota → ℕ
miss pool selection quota = missed quota.side (bound pool quota) (count_by (is_counted pool quota.counted) selection)

-- by how many people a selection misses quotas in all
abbrev pub misses : Pool → List ℕ → List Quota → ℕ
misses pool selection quotas = sum_by (miss pool selection) quotas

-- each selection that keeps the standings `all` misses the quotas by at least `least` people in all
abbrev pub MissAt : Pool → List Quota → List Standing → ℕ → Type 0
MissAt pool quotas all least = (selection : List ℕ) → IsTrue (is_selection_at all selection) → least ≤ misses pool selection quotas

-- each selection, of any size, misses the quotas by at least `least` people in all
abbrev pub MissBy : Pool → List Quota → ℕ → Type 0
MissBy pool quotas least = MissAt pool quotas (standings pool) least

-- ---- conflicts

-- the selection meets each of the quotas: it misses none
abbrev pub meets : Pool → List ℕ → List Quota → Bool
meets pool selection quotas = list_all (λ quota. miss pool selection quota == 0) quotas

-- a quota counts everybody: it is of the size
abbrev pub is_everybody : Counted → Bool
is_everybody Everybody = true
is_everybody (WithValue category value) = false
is_everybody (OfHousehold member) = false

-- one of the quotas is of the size
abbrev pub names_size : List Quota → Bool
names_size quotas = list_any (λ quota. is_everybody quota.counted) quotas

-- some selection meets all quotas but the one at place `place`, and has the panel's size if no quota is of the size
pub record IsNeeded (pool : Pool) (quotas : List Quota) (place : ℕ) : Type 0 where
  pub selection : List ℕ
  pub keeps : IsTrue (is_selection pool selection)
  pub others : IsTrue (meets pool selection (remove quotas place))
  pub size : IsTrue (names_size quotas || length selection == pool.size)

-- each of the quotas is needed for the conflict: without it, some selection meets the others
abbrev pub EachNeeded : Pool → List Quota → Type 0
EachNeeded pool quotas = (place : ℕ) → place < length quotas → IsNeeded pool quotas place

-- quotas that can't be met together; by how many people each selection misses them at least, if it is known; and whether it is known that
-- each of them is needed
pub record Conflict : Type 0 where
  pub quotas : List Quota
  pub least_miss : Option ℕ
  pub is_each_needed : Bool

-- by how many people each selection misses the quotas of a conflict at least: by 1 if more isn't known
abbrev pub known_miss : Conflict → ℕ
known_miss conflict = unwrap_or conflict.least_miss 1
