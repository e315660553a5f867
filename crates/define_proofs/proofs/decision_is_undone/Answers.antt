use Rattle.define_proofs.proofs.StepByStep.{undone}
use Rattle.define_proofs.proofs.decision_is_undone.Goals as goal

pub returns : goal.returns
returns c = undone
