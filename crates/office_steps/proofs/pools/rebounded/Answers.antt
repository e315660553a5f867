use Rattle.std.proofs.Common.{◌≡◌, ◌∙◌, true, cond, List, Some, sym, ap, ap₂}
use Rattle.define_pools.specs.Pool.{Category, Pool}
use Rattle.define_offices.specs.Pools.{with_bounds}
use Rattle.define_offices.specs.Tables.{same_shape}
use Rattle.office_steps.proofs.pools.rebounded.Goals as goal

bounded : (pool : Pool) (bounds : List Category) → same_shape pool.categories bounds ≡ true → with_bounds (Some bounds) pool ≡ record pool { categories = bounds }
bounded pool bounds shape = ap (λ b. cond b (record pool { categories = bounds }) pool) shape

pub from_parts-requires : goal.from_parts-requires
from_parts-requires c =
    let shape = ap₂ same_shape (sym c.categories.ensures) (sym c.categories-2.ensures.value) ∙ (sym c.same_shape.ensures ∙ c.if-not-same_shape.false) in
    rw (c.size.ensures, c.in_ok-categories.ensures ∙ c.categories-3.ensures.value, c.in_ok-volunteers.ensures ∙ c.volunteers.ensures)
    (c.bounded_pools_are_pools.ensures c.args.pool c.args.bounds.now c.facts.ensures c.categories-2.ensures.rules shape)

pub returns : goal.returns
returns c =
    let shape = ap₂ same_shape (sym c.categories.ensures) (sym c.categories-2.ensures.value) ∙ (sym c.same_shape.ensures ∙ c.if-not-same_shape.false) in
    c.from_parts.ensures
    ∙ rw (c.size.ensures, c.in_ok-categories.ensures ∙ c.categories-3.ensures.value, c.in_ok-volunteers.ensures ∙ c.volunteers.ensures) (sym (bounded c.args.pool c.args.bounds.now shape))
