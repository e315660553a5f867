use Rattle.define_offices.proofs.Steps.{step_keeps}
use Rattle.define_offices.proofs.laws.steps_keep_tables.Goals as goal

pub returns : goal.returns
returns c = step_keeps
