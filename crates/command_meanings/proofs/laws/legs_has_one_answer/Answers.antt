use Rattle.command_meanings.proofs.LegEndings.{legs_once}
use Rattle.command_meanings.proofs.laws.legs_has_one_answer.Goals as goal

pub returns : goal.returns
returns c = legs_once
