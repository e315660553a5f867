use Rattle.define_searches.proofs.Below as fronts
use Rattle.define_searches.proofs.waves.below_goes_on.Goals as goal

pub returns : goal.returns
returns c = fronts.below_goes_on
