-- What `loosen` answers. Builds on CostSearch and Loosenings of `define_quotas`. The contract of `loosen` cites it.
use Rattle.std.specs.Prelude.{◌≡◌, ◌≤◌, ◌<◌, ℕ, Option, Result, Ok, Err}
use Rattle.define_quotas.specs.CostSearch.{cheapest_search}
use Rattle.define_quotas.specs.Loosenings.{Loosening, least_loosening}
use Rattle.define_pools.specs.Pool.{Pool}
use Rattle.define_searches.specs.Classes.{classes_of}
use Rattle.quota_loosen.specs.declared.searching.LoosenStop.{LoosenStop}
use Rattle.quota_loosen.specs.declared.searching.LoosenStop.TheVariants.{Spent, OutOfMemory}

-- the pool's least loosening if the visits of the search are at most `nodes`, else that the budget is spent; running out of memory is
-- allowed at any time
abbrev pub Loosens : Pool → ℕ → Result (Option Loosening) LoosenStop → Type 0
Loosens pool nodes (Ok found) = ((cheapest_search (classes_of pool)).visits ≤ nodes) × (found ≡ least_loosening pool)
Loosens pool nodes (Err Spent) = nodes < (cheapest_search (classes_of pool)).visits
Loosens pool nodes (Err OutOfMemory) = Unit {0}
