use Rattle.define_covers.proofs.StepByStep.{begins_with_lottery, goes_on_by_stages}
use Rattle.define_covers.proofs.laws.check_goes_by_stages.Goals as goal

pub returns-clause-begins : goal.returns-clause-begins
returns-clause-begins c = begins_with_lottery

pub returns-clause-goes_on : goal.returns-clause-goes_on
returns-clause-goes_on c = goes_on_by_stages
