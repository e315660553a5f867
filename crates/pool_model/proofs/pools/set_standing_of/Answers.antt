use Rattle.std.proofs.Common.{◌≡◌, ℕ, zero, suc, ◌<◌, List, [], ◌∷◌, length, set, get_or, refl, ap, ◌∙◌, arith}
use Rattle.define_pools.specs.declared.Standing.{Standing}
use Rattle.define_pools.specs.Pool.{Volunteer}
use Rattle.define_pools.specs.Building.{with_standing}
use Rattle.pool_model.proofs.pools.set_standing_of.Goals as goal

-- writing the volunteer with the new standing at place `number` is `with_standing`
written : (volunteers : List Volunteer) (number : ℕ) (standing : Standing) (d : Volunteer) → number < length volunteers →
    set volunteers number (record (get_or volunteers number d) { standing = standing }) ≡ with_standing volunteers number standing
written [] number standing d h = absurd (omega arith)
written (volunteer ∷ volunteers) zero standing d h = refl
written (volunteer ∷ volunteers) (suc number) standing d h = ap (λ rest. volunteer ∷ rest) (written volunteers number standing d (omega arith))

pub returns : goal.returns
returns c =
    let volunteers = c.args.volunteers.now.items in
    let number = c.args.number in
    let there : c.index_mut-volunteer.result.now ≡ get_or volunteers number c.index_mut-volunteer.result.now = c.index_mut-volunteer.ensures.value in
    ap (λ (v : Volunteer). set volunteers number v) (c.set_standing.ensures ∙ ap (λ (v : Volunteer). record v { standing = c.args.standing }) there)
    ∙ written volunteers number c.args.standing c.index_mut-volunteer.result.now (omega arith)
