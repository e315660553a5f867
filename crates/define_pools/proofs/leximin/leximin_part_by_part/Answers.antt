use Rattle.define_pools.proofs.LeximinParts.{part_by_part}
use Rattle.define_pools.proofs.leximin.leximin_part_by_part.Goals as goal

pub returns : goal.returns
returns c = part_by_part
