use Rattle.command_meanings.proofs.OneAnswer.{verify_once}
use Rattle.command_meanings.proofs.laws.verify_has_one_answer.Goals as goal

pub returns : goal.returns
returns c = verify_once
