-- What `why` claims of a conflict. Builds on Quotas and OnlyQuotas. `quota_conflicts` promises it, and the meaning of `why` cites it.
use Rattle.std.specs.Prelude.{◌≡◌, ◌≢◌, ◌≤◌, [], IsTrue}
use Rattle.std.specs.List.{AllPairs, list_all}
use Rattle.define_pools.specs.Pool.{Pool, panels}
use Rattle.define_quotas.specs.OnlyQuotas.{only}
use Rattle.define_quotas.specs.Quotas.{Conflict, EachNeeded, MissBy, is_quota_of, known_miss}

pub record IsConflict (pool : Pool) (conflict : Conflict) : Type 0 where
  -- the quotas are the pool's: what each of them counts is there, and a household is somebody's
  pub of_pool : IsTrue (list_all (is_quota_of pool) conflict.quotas)
  -- no quota is named twice
  pub different : AllPairs (λ one other. one ≢ other) conflict.quotas
  -- each selection misses the quotas by at least `known_miss conflict` people in all, and this number is at least 1
  pub misses : MissBy pool conflict.quotas (known_miss conflict)
  pub some : 1 ≤ known_miss conflict
  -- the pool with only these quotas has no quota panel
  pub none : panels (only pool conflict.quotas) ≡ []
  -- so the pool has no quota panel
  pub no_panel : panels pool ≡ []
  -- if the conflict says that each quota is needed, then for each quota some selection meets all the others
  pub needed : IsTrue conflict.is_each_needed → EachNeeded pool conflict.quotas
