use Rattle.define_offices.proofs.Certified.{folds_are_greatest}
use Rattle.define_offices.proofs.laws.folds_are_greatest.Goals as goal

pub returns : goal.returns
returns c = folds_are_greatest
