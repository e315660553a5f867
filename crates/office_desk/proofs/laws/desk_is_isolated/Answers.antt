use Rattle.office_desk.proofs.Isolation.{isolated}
use Rattle.office_desk.proofs.laws.desk_is_isolated.Goals as goal

pub returns : goal.returns
returns c = isolated
