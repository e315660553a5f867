use Rattle.std.proofs.Common.{◌≡◌, ℕ, zero, suc, ◌<◌, List, [], ◌∷◌, length, set, get_or, Some, refl, ap, ◌∙◌, arith}
use Rattle.define_pools.specs.Pool.{Volunteer}
use Rattle.define_pools.specs.Building.{with_household}
use Rattle.pool_model.proofs.pools.set_household_of.Goals as goal

-- writing the volunteer with the new household at place `number` is `with_household`
written : (volunteers : List Volunteer) (number : ℕ) (name : List ℕ) (d : Volunteer) → number < length volunteers →
    set volunteers number (record (get_or volunteers number d) { household = Some name }) ≡ with_household volunteers number name
written [] number name d h = absurd (omega arith)
written (volunteer ∷ volunteers) zero name d h = refl
written (volunteer ∷ volunteers) (suc number) name d h = ap (λ rest. volunteer ∷ rest) (written volunteers number name d (omega arith))

pub returns : goal.returns
returns c =
    let volunteers = c.args.volunteers.now.items in
    let number = c.args.number in
    let there : c.index_mut-volunteer.result.now ≡ get_or volunteers number c.index_mut-volunteer.result.now = c.index_mut-volunteer.ensures.value in
    ap (λ (v : Volunteer). set volunteers number v) (c.set_household.ensures ∙ ap (λ (v : Volunteer). record v { household = Some c.args.name }) there)
    ∙ written volunteers number c.args.name c.index_mut-volunteer.result.now (omega arith)
