use Rattle.define_offices.proofs.Pools.{pool_of_has}
use Rattle.define_offices.proofs.laws.pools_are_pools.Goals as goal

pub returns : goal.returns
returns c = λ tables number pool keeps is. (pool_of_has tables keeps number pool is).is.is_pool
