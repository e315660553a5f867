use Rattle.std.proofs.Common.{◌≡◌, ℕ, List, sum_by, ap, ◌∙◌}
use Rattle.std.specs.List.{enumerate_from}
use Rattle.std.proofs.lemmas.Option.{IfSome_then}
use Rattle.define_quotas.specs.Teams.{missed_by}
use Rattle.define_pools.specs.Pool.{Category, Volunteer, members_with}
use Rattle.loosening_by_proof.proofs.teams.team_cost.Goals as goal

missed : List Category → List Volunteer → List ℕ → ℕ
missed categories volunteers members =
    sum_by (λ (c, category). sum_by (λ (v, value). missed_by value.lower value.upper (members_with volunteers members c v)) (enumerate_from 0 category.values))
    (enumerate_from 0 categories)

pub returns : goal.returns
unfolding missed
returns c =
    let pool = c.args.pool.now in
    IfSome_then c.cost.result c.cost.ensures (λ cost e. e
    ∙ (ap (λ (categories : List Category). missed categories c.volunteers.result.now c.members.result.now) c.categories.ensures
    ∙ (ap (λ (volunteers : List Volunteer). missed pool.categories volunteers c.members.result.now) c.volunteers.ensures
    ∙ ap (λ (members : List ℕ). missed pool.categories pool.volunteers members) c.members.ensures.value)))
