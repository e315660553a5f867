use Rattle.define_pools.proofs.Greatest.{greatest_from_Certifies}
use Rattle.define_pools.proofs.certified_is_greatest.Goals as goal

pub returns : goal.returns
returns c = greatest_from_Certifies
