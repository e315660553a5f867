use Rattle.command_meanings.proofs.OneAnswer.{bundle_once}
use Rattle.command_meanings.proofs.laws.bundle_has_one_answer.Goals as goal

pub returns : goal.returns
returns c = bundle_once
