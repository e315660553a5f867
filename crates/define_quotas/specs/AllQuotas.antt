-- All quotas of a pool, and those of its values. If the pool has no quota panel, all its quotas are a conflict. Builds on Quotas. `why` names
-- all of them if no smaller conflict is found; the costs of `define_quotas` are misses of the quotas of values.
use Rattle.std.specs.Prelude.{ℕ, nat_le, Bool, false, ◌&&◌, List, [], ◌∷◌, ◌++◌, map, filter, count_by, None}
use Rattle.std.specs.List.{enumerate_from, flat_map}
use Rattle.define_pools.specs.Pool.{Category, Pool, everybody, share_household}
use Rattle.define_quotas.specs.declared.Counted.{Counted}
use Rattle.define_quotas.specs.declared.Counted.TheVariants.{Everybody, WithValue, OfHousehold}
use Rattle.define_quotas.specs.declared.Quota.{Quota}
use Rattle.define_quotas.specs.declared.Side.TheVariants.{AtLeast, AtMost}
use Rattle.define_quotas.specs.Quotas.{Conflict, is_counted_of}

-- both bounds on the number of members whom a quota counts
abbrev pub both_bounds : Counted → List Quota
both_bounds counted = record { counted = counted; side = AtLeast } ∷ record { counted = counted; side = AtMost } ∷ []

-- the two quotas of the value at place `value` of the category at place `category`
abbrev pub quotas_of_value : ℕ → ℕ → List Quota
quotas_of_value category value = both_bounds (WithValue category value)

-- the quotas of the values of the category at place `category`
abbrev pub quotas_of_category : ℕ × Category → List Quota
quotas_of_category (place, category) = flat_map (λ (value, bounds). quotas_of_value place value) (enumerate_from 0 category.values)

-- the quotas of all values of a pool, each once
abbrev pub value_quotas : Pool → List Quota
value_quotas pool = flat_map quotas_of_category (enumerate_from 0 pool.categories)

-- the volunteer is the first of a household of two or more
abbrev pub is_first_of_shared : Pool → ℕ → Bool
is_first_of_shared pool i = is_counted_of pool (OfHousehold i) && nat_le 2 (count_by (share_household pool.volunteers i) (everybody pool))

abbrev pub household_quota : ℕ → Quota
household_quota member = record { counted = OfHousehold member; side = AtMost }

-- the quotas of all shared households, in the order of their first members
abbrev pub household_quotas : Pool → List Quota
household_quotas pool = map household_quota (filter (is_first_of_shared pool) (everybody pool))

-- all quotas of a pool: those of the size, of all values, and of all shared households
abbrev pub all_quotas : Pool → List Quota
all_quotas pool = both_bounds Everybody ++ value_quotas pool ++ household_quotas pool

-- the conflict of all quotas. By how many people they are missed isn't known, nor that each of them is needed
abbrev pub all_together : Pool → Conflict
all_together pool = record { quotas = all_quotas pool; least_miss = None; is_each_needed = false }
