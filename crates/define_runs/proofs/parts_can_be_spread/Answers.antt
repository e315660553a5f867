use Rattle.define_runs.proofs.Parts.{parts_are}
use Rattle.define_runs.proofs.parts_can_be_spread.Goals as goal

pub returns : goal.returns
returns c = λ all limits table keeps. parts_are all limits table keeps
