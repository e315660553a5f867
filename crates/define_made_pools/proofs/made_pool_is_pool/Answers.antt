use Rattle.define_made_pools.proofs.MadePools.{is_pool}
use Rattle.define_made_pools.proofs.made_pool_is_pool.Goals as goal

pub returns : goal.returns
returns c = is_pool
