use Rattle.command_meanings.proofs.RunEndings.{lottery_once}
use Rattle.command_meanings.proofs.laws.lottery_has_one_answer.Goals as goal

pub returns : goal.returns
returns c = lottery_once
