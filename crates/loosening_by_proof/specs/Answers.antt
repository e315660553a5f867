-- What a search for a least loosening answers about a pool.
use Rattle.std.specs.Prelude.{◌≡◌, ℕ, List, Option, Some, None, IsTrue}
use Rattle.define_quotas.specs.Loosenings.{IsLeast, Loosening, loosening_for}
use Rattle.define_quotas.specs.Teams.{is_team}
use Rattle.define_pools.specs.Pool.{Pool}

-- the loosening is `loosening_for` a team, and it is least
pub record IsLeastForTeam (pool : Pool) (loosening : Loosening) : Type 0 where
  pub team : IsTrue (is_team pool loosening.panel)
  pub is_for : loosening ≡ loosening_for pool loosening.panel
  pub least : IsLeast pool loosening

-- a least loosening for a team; or that there is no team
abbrev pub IsLoosening : Pool → Option Loosening → Type 0
IsLoosening pool (Some loosening) = IsLeastForTeam pool loosening
IsLoosening pool None = (team : List ℕ) → IsTrue (is_team pool team) → ⊥
