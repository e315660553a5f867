use Rattle.command_meanings.proofs.OneAnswer.{check_once}
use Rattle.command_meanings.proofs.laws.check_has_one_answer.Goals as goal

pub returns : goal.returns
returns c = check_once
