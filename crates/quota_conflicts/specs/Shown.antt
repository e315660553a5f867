-- By how many people at least each selection misses quotas, as a tree shows it: by `least`, or by 1 if there is no `least`.
use Rattle.std.specs.Prelude.{◌≤◌, ℕ, List, Option, unwrap_or}
use Rattle.define_quotas.specs.Quotas.{MissBy}
use Rattle.define_quotas.specs.declared.Quota.{Quota}
use Rattle.define_pools.specs.Pool.{Pool}

pub record IsShown (pool : Pool) (quotas : List Quota) (least : Option ℕ) : Type 0 where
  pub misses : MissBy pool quotas (unwrap_or least 1)
  pub some : 1 ≤ unwrap_or least 1
