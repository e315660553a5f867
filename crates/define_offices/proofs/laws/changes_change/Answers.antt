use Rattle.define_offices.proofs.NoChange as laws
use Rattle.define_offices.proofs.laws.changes_change.Goals as goal

pub returns : goal.returns
returns c = laws.changes_change
