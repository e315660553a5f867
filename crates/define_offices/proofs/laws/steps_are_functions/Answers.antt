use Rattle.define_offices.proofs.Steps.{one_outcome, some_outcome}
use Rattle.define_offices.proofs.laws.steps_are_functions.Goals as goal

pub returns : goal.returns
returns c = record { some = some_outcome; one = one_outcome }
