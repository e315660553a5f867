use Rattle.define_legs.proofs.Short.{chains-short}
use Rattle.define_legs.proofs.pivots.chains_are_short.Goals as goal

pub returns : goal.returns
returns c = chains-short
