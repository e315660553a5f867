use Rattle.std.proofs.Common.{◌≡◌, ℕ, List, None, ap, ◌∙◌}
use Rattle.std.proofs.lemmas.Str.{is_utf8-from_IsUtf8}
use Rattle.define_pools.specs.Pool.{Pool, BoundedValue}
use Rattle.define_pools.specs.Building.{value_kind}
use Rattle.define_pools.proofs.BuildingLemmas.{IsPool-value_added}
use Rattle.pool_model.proofs.pools.Pool.add_right_value.Goals as goal

pub invariant_of-self-2 : goal.invariant_of-self-2
invariant_of-self-2 c =
    let pool : Pool = record { size = c.self.inside.size; categories = c.self.inside.categories.items; volunteers = c.self.inside.volunteers.items } in
    let name = c.args.name.now in
    let named : List ℕ → BoundedValue = λ n. record { name = n; lower = c.args.lower; upper = c.args.upper } in
    let none : value_kind pool (named name) ≡ None =
    ap (λ p. value_kind p (named name)) c.self.view_is ∙ c.requires in
    (rw (c.in_ok-add_to_last.ensures.ok, c.new-value.ensures, c.in_ok-name.ensures) (IsPool-value_added pool (named name) c.self.invariant.0 none (is_utf8-from_IsUtf8 name c.utf8.name)), c.self.invariant.1)
