use Rattle.std.proofs.Common.{◌∙◌, [], ap, arith, take}
use Rattle.define_pools.specs.Pool.{Category, Pool}
use Rattle.define_pools.specs.Building.{category_kind}
use Rattle.office_import.proofs.PoolLemmas.{category_is_new}
use Rattle.office_import.proofs.drafts.pool_of.Goals as goal

pub add_draft-requires-clause-new : goal.add_draft-requires-clause-new
add_draft-requires-clause-new c =
    let drafts = c.args.drafts.now in let i = c.loop-draft.draft-index in let d = c.draft-item.result in
    let built : Pool = record { size = 1; categories = take i drafts; volunteers = [] } in
    ap (λ (p : Pool). category_kind p d.name) c.loop-draft.invariant
    ∙ (ap (λ (k : Category). category_kind built k.name) c.draft-item.is ∙ category_is_new drafts i d c.requires (omega arith))
