use Rattle.command_office.proofs.Workers.{workers_change_nothing}
use Rattle.command_office.proofs.promises.workers_change_nothing.Goals as goal

pub returns : goal.returns
returns c = workers_change_nothing c.steps_answer_once.ensures
