use Rattle.define_legs.proofs.Endings.{spends_below}
use Rattle.define_legs.proofs.laws.spent_pivots_are_few.Goals as goal

pub returns : goal.returns
returns c = spends_below
