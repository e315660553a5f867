use Rattle.std.proofs.Common.{◌≡◌, None, ap, ◌∙◌}
use Rattle.std.proofs.lemmas.Str.{is_utf8-from_IsUtf8}
use Rattle.define_pools.specs.Pool.{Pool}
use Rattle.define_pools.specs.Building.{category_kind}
use Rattle.define_pools.proofs.BuildingLemmas.{IsPool-category_added}
use Rattle.pool_model.proofs.pools.Pool.add_right_category.Goals as goal

pub invariant_of-self-2 : goal.invariant_of-self-2
invariant_of-self-2 c =
    let pool : Pool = record { size = c.self.inside.size; categories = c.self.inside.categories.items; volunteers = c.self.inside.volunteers.items } in
    let name = c.args.name.now in
    let none : category_kind pool name ≡ None =
    ap (λ p. category_kind p name) c.self.view_is ∙ c.requires in
    (rw (c.in_ok-push.ensures.items, c.in_ok-category.ensures) (IsPool-category_added pool name c.self.invariant.0 none (is_utf8-from_IsUtf8 name c.utf8.name)), c.self.invariant.1)
