use Rattle.std.proofs.Common.{sym, ◌∙◌}
use Rattle.pool_model.proofs.LastCategory.{last_values-from_slice_get}
use Rattle.pool_model.proofs.pools.last_values.Goals as goal

pub returns-in-Some : goal.returns-in-Some
returns-in-Some c =
    c.values.ensures ∙ sym (last_values-from_slice_get c.args.categories.now c.in-Some.category.now c.in-Some.ensures.value)
