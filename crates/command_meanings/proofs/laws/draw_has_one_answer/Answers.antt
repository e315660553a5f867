use Rattle.command_meanings.proofs.OneAnswer.{draw_once}
use Rattle.command_meanings.proofs.laws.draw_has_one_answer.Goals as goal

pub returns : goal.returns
returns c = draw_once
