use Rattle.command_meanings.proofs.OneAnswer.{panel_once}
use Rattle.command_meanings.proofs.laws.panel_has_one_answer.Goals as goal

pub returns : goal.returns
returns c = panel_once
