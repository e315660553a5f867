use Rattle.command_meanings.proofs.RunEndings.{make_once}
use Rattle.command_meanings.proofs.laws.make_has_one_answer.Goals as goal

pub returns : goal.returns
returns c = make_once
