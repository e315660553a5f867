use Rattle.std.proofs.Common.{ap, sym, ◌∙◌}
use Rattle.pool_model.specs.IdOrder.{precedes}
use Rattle.pool_model.proofs.IdsInOrder.{follows-from_slice_get}
use Rattle.pool_model.proofs.id_order.follows_last.Goals as goal

pub returns-in-Some : goal.returns-in-Some
returns-in-Some c =
    let id = c.args.id.now in
    c.precedes.ensures ∙ ap (λ last. precedes last id) (c.as_bytes.ensures ∙ c.id.ensures)
    ∙ sym (follows-from_slice_get c.args.volunteers.now c.in-Some.last.now id c.in-Some.ensures.value)
