use Rattle.define_offices.proofs.Shapes.{bounded_is_pool}
use Rattle.define_offices.proofs.laws.bounded_pools_are_pools.Goals as goal

pub returns : goal.returns
returns c = bounded_is_pool
