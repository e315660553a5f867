use Rattle.command_office.proofs.Isolation.{tells_nothing}
use Rattle.command_office.proofs.promises.volunteers_are_isolated.Goals as goal

pub returns : goal.returns
returns c = tells_nothing c.desk_is_isolated.ensures
