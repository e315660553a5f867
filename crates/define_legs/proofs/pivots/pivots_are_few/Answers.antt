use Rattle.define_legs.proofs.Leads.{pivots-few}
use Rattle.define_legs.proofs.pivots.pivots_are_few.Goals as goal

pub returns : goal.returns
returns c = pivots-few
