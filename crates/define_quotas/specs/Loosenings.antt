-- Least loosenings of a pool: bounds moved so that there is a quota panel, and as little as possible. Builds on Teams and Costs, on Pool of
-- `define_pools`, and on Best, Classes and Compositions of `define_searches`. `quota_loosen` and `loosening_by_proof` find least
-- loosenings, `define_quotas` has laws on them, and `command_quotas` prints them.
use Rattle.std.specs.Prelude.{◌≡◌, ◌≢◌, ◌↔◌, ℕ, ◌≤◌, ◌<◌, Bool, IsTrue, List, [], Option, option_map}
use Rattle.define_pools.specs.Pool.{IsPool, Pool, is_quota_panel, panels}
use Rattle.define_searches.specs.Best.{comes_before}
use Rattle.define_searches.specs.Classes.{classes_by, classes_of}
use Rattle.define_searches.specs.Compositions.{composition_of, first_panel}
use Rattle.define_quotas.specs.Costs.{cheapest_team}
use Rattle.define_quotas.specs.Teams.{DifferInBounds, bounds_moved, is_team, loosened, team_cost}

-- a loosening: how far bounds are moved in all, the pool with its bounds moved, and a quota panel of that pool
pub record Loosening : Type 0 where
  pub total : ℕ
  pub pool : Pool
  pub panel : List ℕ

-- the loosening for a team of the pool
abbrev pub loosening_for : Pool → List ℕ → Loosening
loosening_for pool team = record { total = team_cost pool team; pool = loosened pool team; panel = team }

-- the least loosening of a pool, or None if there is no team. Its team is the first members of each class, as many as the cheapest counts
-- say
abbrev pub least_loosening : Pool → Option Loosening
least_loosening pool = option_map (λ counts. loosening_for pool (first_panel (classes_of pool) counts)) (cheapest_team (classes_of pool))

-- `team` is a team with the composition `counts`. No team costs less, and each with an earlier composition costs more
pub record IsCheapest (pool : Pool) (alike : ℕ → ℕ → Bool) (counts team : List ℕ) : Type 0 where
  pub is_one : IsTrue (is_team pool team)
  pub composition : composition_of (classes_by alike pool) team ≡ counts
  pub none_cheaper : (other : List ℕ) → IsTrue (is_team pool other) → team_cost pool team ≤ team_cost pool other
  pub first : (other : List ℕ) → IsTrue (is_team pool other) → IsTrue (comes_before (composition_of (classes_by alike pool) other) counts) →
      team_cost pool team < team_cost pool other

-- the loosening moves bounds alone, by its total in all. It makes a pool, and its panel is a quota panel of that pool. No pool that differs
-- in bounds alone and has a quota panel differs by less. The total is 0 exactly if the pool itself has a quota panel
pub record IsLeast (pool : Pool) (loosening : Loosening) : Type 0 where
  pub bounds_alone : DifferInBounds pool loosening.pool
  pub moved : bounds_moved pool.categories loosening.pool.categories ≡ loosening.total
  pub is_pool : IsPool loosening.pool
  pub fits : IsTrue (is_quota_panel loosening.pool loosening.panel)
  pub no_less : (other : Pool) → IsPool other → DifferInBounds pool other → panels other ≢ [] → loosening.total ≤ bounds_moved pool.categories other.categories
  pub none_needed : loosening.total ≡ 0 ↔ panels pool ≢ []
