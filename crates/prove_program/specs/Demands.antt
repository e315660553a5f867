-- Demands: constraints that are given by the volunteers whom they count.
use Rattle.std.specs.Prelude.{◌≡◌, ℕ, ◌<◌, ◌≤◌, ◌==◌, Bool, true, List, map, length, slice_index, Option, None, Some}
use Rattle.std.specs.List.{All}
use Rattle.define_proofs.specs.Constraints.{Constraint, counting}
use Rattle.define_pools.specs.Pool.{Pool, everybody, volunteer}
use Rattle.define_searches.specs.Classes.{Class, shared_household}
use Rattle.define_searches.specs.Compositions.{is_of_household}
use Rattle.prove_program.specs.declared.columns.Column.{Column}
use Rattle.prove_program.specs.declared.demands.Counted.{Counted}
use Rattle.prove_program.specs.declared.demands.Counted.TheVariants.{Everybody, WithValue, OfHousehold}
use Rattle.prove_program.specs.declared.demands.Demand.{Demand}

-- true if volunteer `i` is among those whom a demand counts
abbrev pub is_counted : Pool → Counted → ℕ → Bool
is_counted pool Everybody i = true
is_counted pool (WithValue category value) i = slice_index (volunteer pool.volunteers i).values category == value
is_counted pool (OfHousehold number) i = is_of_household number (shared_household pool.volunteers i)

-- the constraint of a demand
abbrev pub constraint_of : Pool → Demand → Constraint
constraint_of pool demand = counting pool (is_counted pool demand.counted) demand.lower demand.upper

-- for each volunteer, the number of the household that the volunteer shares, or None
abbrev pub shared_households : Pool → List (Option ℕ)
shared_households pool = map (shared_household pool.volunteers) (everybody pool)

-- the shared household of a class, if it has one; a class with a shared household has a single member
abbrev pub household_of : Option Class → Option ℕ
household_of None = None
household_of (Some class) = class.household

-- a column has from 1 to 4,000 members. Its least count is at most its greatest, which is at most its size
pub record IsColumn (column : Column) : Type 0 where
  pub has_member : 1 ≤ column.size
  pub few : column.size ≤ 4000
  pub in_order : column.least ≤ column.greatest
  pub within : column.greatest ≤ column.size

-- there are at most 4,000 columns, and their first members are volunteers of the pool
pub record AreColumns (pool : Pool) (columns : List Column) : Type 0 where
  pub few : length columns ≤ 4000
  pub firsts : All (λ column. column.first < length pool.volunteers) columns
  pub each : All IsColumn columns

-- each volunteer has the number of a column
pub record NumberColumns (pool : Pool) (numbers : List ℕ) (columns : List Column) : Type 0 where
  pub one_each : length numbers ≡ length pool.volunteers
  pub within : All (λ column. column < length columns) numbers

-- the lower bound is at most the upper one, which is at most 1,000
abbrev pub HasBounds : Demand → Type 0
HasBounds demand = (demand.lower ≤ demand.upper) × (demand.upper ≤ 1000)

-- `HasBounds` holds of each demand, and there are at most 5001, the most constraints of a pool before its first stage
pub record AreDemands (demands : List Demand) : Type 0 where
  pub few : length demands ≤ 5001
  pub each : All HasBounds demands
