use Rattle.command_stores.proofs.Once.{answers_once}
use Rattle.command_stores.proofs.laws.steps_answer_once.Goals as goal

pub returns : goal.returns
returns c = answers_once
