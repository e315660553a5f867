use Rattle.define_offices.proofs.Steps.{folds_are_tables}
use Rattle.define_offices.proofs.laws.folds_are_tables.Goals as goal

pub returns : goal.returns
returns c = folds_are_tables
