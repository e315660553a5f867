use Rattle.command_meanings.proofs.OneAnswer.{seal_once}
use Rattle.command_meanings.proofs.laws.seal_has_one_answer.Goals as goal

pub returns : goal.returns
returns c = seal_once
