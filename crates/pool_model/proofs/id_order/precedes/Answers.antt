use Rattle.pool_model.proofs.IdsInOrder.{precedes_alike}
use Rattle.pool_model.proofs.id_order.precedes.Goals as goal

pub returns-then-id-other-2 : goal.returns-then-id-other-2
returns-then-id-other-2 c = precedes_alike c.args.id.now c.args.other.now c.lt.result c.if-id-other.false c.if-id-other-2.true c.lt.ensures
