-- A pool with only some of its quotas. A bound of a value that isn't among these quotas becomes 0 or 999, which no panel breaks; a
-- volunteer loses a household that none of these quotas counts. Builds on LeastMisses. `conflict_leaves_no_panel` says that this pool has
-- no quota panel if each selection misses the quotas.
use Rattle.std.specs.Prelude.{ℕ, ◌==◌, if◌then◌else◌, Bool, false, ◌&&◌, List, map, None}
use Rattle.std.specs.List.{enumerate_from, list_any}
use Rattle.define_pools.specs.Pool.{BoundedValue, Category, Pool, Volunteer, share_household}
use Rattle.define_quotas.specs.declared.Counted.{Counted}
use Rattle.define_quotas.specs.declared.Counted.TheVariants.{Everybody, WithValue, OfHousehold}
use Rattle.define_quotas.specs.declared.Quota.{Quota}
use Rattle.define_quotas.specs.declared.Side.{Side}
use Rattle.define_quotas.specs.declared.Side.TheVariants.{AtLeast, AtMost}
use Rattle.define_quotas.specs.LeastMisses.{is_side}

-- the quota counts those who have the value at place `value` of the category at place `category`
abbrev pub is_of_value : ℕ → ℕ → Counted → Bool
is_of_value category value Everybody = false
is_of_value category value (WithValue own_category own_value) = category == own_category && value == own_value
is_of_value category value (OfHousehold member) = false

-- one of the quotas is of this side of a value
abbrev pub names_value : List Quota → Side → ℕ → ℕ → Bool
names_value quotas side category value = list_any (λ quota. is_side side quota.side && is_of_value category value quota.counted) quotas

-- volunteer `i` is of the household that the quota counts
abbrev pub is_in_household : Pool → ℕ → Counted → Bool
is_in_household pool i Everybody = false
is_in_household pool i (WithValue category value) = false
is_in_household pool i (OfHousehold member) = share_household pool.volunteers member i

-- one of the quotas is of the household of volunteer `i`
abbrev pub has_household : Pool → List Quota → ℕ → Bool
has_household pool quotas i = list_any (λ quota. is_in_household pool i quota.counted) quotas

abbrev pub only_value : List Quota → ℕ → ℕ × BoundedValue → BoundedValue
only_value quotas category (place, value) = record value {
  lower = if names_value quotas AtLeast category place then value.lower else 0;
  upper = if names_value quotas AtMost category place then value.upper else 999;
}

abbrev pub only_category : List Quota → ℕ × Category → Category
only_category quotas (place, category) = record category { values = map (only_value quotas place) (enumerate_from 0 category.values) }

abbrev pub only_volunteer : Pool → List Quota → ℕ × Volunteer → Volunteer
only_volunteer pool quotas (i, volunteer) = record volunteer { household = if has_household pool quotas i then volunteer.household else None }

-- the pool with only these quotas. It keeps the pool's size even if no quota is of the size
abbrev pub only : Pool → List Quota → Pool
only pool quotas = record {
  size = pool.size;
  categories = map (only_category quotas) (enumerate_from 0 pool.categories);
  volunteers = map (only_volunteer pool quotas) (enumerate_from 0 pool.volunteers);
}
