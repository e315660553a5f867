use Rattle.define_offices.proofs.Again as again
use Rattle.define_offices.proofs.laws.tries_are_draws.Goals as goal

pub returns : goal.returns
returns c = again.tries_are_draws
