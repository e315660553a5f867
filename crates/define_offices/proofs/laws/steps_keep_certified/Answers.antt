use Rattle.define_offices.proofs.Certified.{step_certified}
use Rattle.define_offices.proofs.laws.steps_keep_certified.Goals as goal

pub returns : goal.returns
returns c = step_certified
