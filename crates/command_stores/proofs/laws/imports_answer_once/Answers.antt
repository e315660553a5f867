use Rattle.command_stores.proofs.Once.{imports_once}
use Rattle.command_stores.proofs.laws.imports_answer_once.Goals as goal

pub returns : goal.returns
returns c = imports_once c.one_reading.ensures.rules c.one_reading.ensures.rows
