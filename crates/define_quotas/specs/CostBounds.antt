-- What each team costs at least. A team costs the number of people by which it misses the quotas of all values (`value_quotas` of
-- `define_quotas`) in all. Builds on the teams of `define_quotas` and the quotas of `define_quotas`. `loosening_by_proof` shows by it that a loosening is least.
use Rattle.std.specs.Prelude.{ℕ, ◌≤◌, Bool, true, false, IsTrue, List, Option, Some, None}
use Rattle.define_pools.specs.declared.Standing.{Standing}
use Rattle.define_pools.specs.Pool.{Pool}
use Rattle.define_quotas.specs.Teams.{is_team, team_cost}
use Rattle.define_quotas.specs.declared.Counted.{Counted}
use Rattle.define_quotas.specs.declared.Counted.TheVariants.{Everybody, WithValue, OfHousehold}
use Rattle.define_quotas.specs.Quotas.{is_selection_at}

-- each team meets a quota that counts `counted`, since it is a quota of the size or of a household
abbrev pub is_met_by_teams : Counted → Bool
is_met_by_teams Everybody = true
is_met_by_teams (WithValue category value) = false
is_met_by_teams (OfHousehold member) = true

-- the cost is at least the given number. Without a number there is no team, so no cost either
abbrev pub IsAtLeast : Option ℕ → ℕ → Type 0
IsAtLeast None cost = ⊥
IsAtLeast (Some least) cost = least ≤ cost

-- each team of the pool that keeps the standings `all` costs at least `least`; if `least` is None, no team keeps them
abbrev pub CostsAt : Pool → List Standing → Option ℕ → Type 0
CostsAt pool all least =
    (team : List ℕ) → IsTrue (is_team pool team) → IsTrue (is_selection_at all team) → IsAtLeast least (team_cost pool team)
