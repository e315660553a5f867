use Rattle.define_proofs.proofs.StepByStep.{begins_with_lottery, goes_on_by_stages}
use Rattle.define_proofs.proofs.check_goes_by_stages.Goals as goal

pub returns : goal.returns
returns c = record { begins = begins_with_lottery; goes_on = goes_on_by_stages }
