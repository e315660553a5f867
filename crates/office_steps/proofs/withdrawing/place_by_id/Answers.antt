use Rattle.office_steps.proofs.KeyRows.{id_place_is}
use Rattle.office_steps.proofs.withdrawing.place_by_id.Goals as goal

pub returns : goal.returns
returns c = id_place_is c.args.register.now c.args.id.now c.position_by_id.result c.position_by_id.ensures
