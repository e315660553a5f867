-- Teams: panels that need not meet the quotas, only the widest bounds that a pool may have. What a team costs, and the pool whose bounds are
-- moved so that the team is a quota panel.
-- Builds on Pool of `define_pools`. `quota_loosen`, which searches for a team, `define_quotas`, `loosening_by_proof` and
-- `command_quotas` use it.
use Rattle.std.specs.Prelude.{◌≡◌, ℕ, ◌+◌, ◌-◌, Bool, List, [], ◌∷◌, map, max, min, sum_by}
use Rattle.std.specs.List.{enumerate_from}
use Rattle.define_pools.specs.Pool.{BoundedValue, Category, Pool, Volunteer, is_quota_panel, members_with}

-- the widest bounds that a value of a pool may have
abbrev pub widest_value : BoundedValue → BoundedValue
widest_value value = record value { lower = 0; upper = 999 }

abbrev pub widest_category : Category → Category
widest_category category = record category { values = map widest_value category.values }

abbrev pub widest : Pool → Pool
widest pool = record pool { categories = map widest_category pool.categories }

-- a quota panel of the pool with the widest bounds: an increasing list of numbers of volunteers, of the pool's size, that keeps the
-- standings, has no two members of one household, and has at most 999 members with each value
abbrev pub is_team : Pool → List ℕ → Bool
is_team pool team = is_quota_panel (widest pool) team

-- how far `number` is below `lower` or above `upper`; 0 if it is neither
abbrev pub missed_by : ℕ → ℕ → ℕ → ℕ
missed_by lower upper number = (lower - number) + (number - upper)

-- the sum over values of how far the number of the team's members with the value is below its lower or above its upper bound
abbrev pub team_cost : Pool → List ℕ → ℕ
team_cost pool team =
    sum_by (λ (c, category).
    sum_by (λ (v, value). missed_by value.lower value.upper (members_with pool.volunteers team c v)) (enumerate_from 0 category.values))
    (enumerate_from 0 pool.categories)

-- the value with bounds that are moved just so far that `number` lies within them
abbrev pub loosened_value : BoundedValue → ℕ → BoundedValue
loosened_value value number = record { name = value.name; lower = min value.lower number; upper = max value.upper number }

-- category `c` of a pool with these volunteers, each bound moved just so far that the team meets it
abbrev pub loosened_category : List Volunteer → List ℕ → ℕ → Category → Category
loosened_category volunteers team c category =
    record { name = category.name; values = map (λ (v, value). loosened_value value (members_with volunteers team c v)) (enumerate_from 0 category.values) }

-- the pool with each bound moved just so far that the team meets it
abbrev pub loosened : Pool → List ℕ → Pool
loosened pool team = record {
  size = pool.size;
  categories = map (λ (c, category). loosened_category pool.volunteers team c category) (enumerate_from 0 pool.categories);
  volunteers = pool.volunteers;
}

-- how far two numbers are apart
abbrev pub distance : ℕ → ℕ → ℕ
distance a b = (a - b) + (b - a)

-- how far the bounds of values are moved in all, from the first list to the second
abbrev pub values_moved : List BoundedValue → List BoundedValue → ℕ
values_moved [] others = 0
values_moved (value ∷ values) [] = 0
values_moved (value ∷ values) (other ∷ others) = distance value.lower other.lower + distance value.upper other.upper + values_moved values others

-- how far the bounds of categories are moved in all, from the first list to the second
abbrev pub bounds_moved : List Category → List Category → ℕ
bounds_moved [] others = 0
bounds_moved (category ∷ categories) [] = 0
bounds_moved (category ∷ categories) (other ∷ others) = values_moved category.values other.values + bounds_moved categories others

-- the names of a category's values
abbrev pub names_of_values : Category → List (List ℕ)
names_of_values category = map (λ value. value.name) category.values

-- two pools differ in bounds alone: size, volunteers, and the names of categories and values are equal
pub record DifferInBounds (pool other : Pool) : Type 0 where
  pub size : other.size ≡ pool.size
  pub categories : map (λ category. category.name) other.categories ≡ map (λ category. category.name) pool.categories
  pub values : map names_of_values other.categories ≡ map names_of_values pool.categories
  pub volunteers : other.volunteers ≡ pool.volunteers
