use Rattle.office_steps.proofs.KeyRows.{hash_place_is}
use Rattle.office_steps.proofs.withdrawing.place_of.Goals as goal

pub returns : goal.returns
returns c = hash_place_is c.args.register.now c.args.hash.now c.position_of.result c.position_of.ensures
