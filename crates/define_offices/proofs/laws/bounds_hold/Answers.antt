use Rattle.define_offices.proofs.Again as again
use Rattle.define_offices.proofs.laws.bounds_hold.Goals as goal

pub returns : goal.returns
returns c = again.bounds_hold
