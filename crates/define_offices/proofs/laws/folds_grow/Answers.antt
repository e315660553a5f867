use Rattle.define_offices.proofs.Steps.{folds_grow}
use Rattle.define_offices.proofs.laws.folds_grow.Goals as goal

pub returns : goal.returns
returns c = folds_grow
