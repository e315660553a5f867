use Rattle.std.proofs.Common.{◌≡◌, ℕ, List, ap, sym, subst, ◌∙◌, true}
use Rattle.define_quotas.specs.Teams.{is_team, loosened}
use Rattle.define_quotas.proofs.MovedBounds.{loosened_is_pool}
use Rattle.define_pools.specs.Pool.{Category, IsPool, Pool, Volunteer}
use Rattle.quota_loosen.proofs.bounds.loosened.Goals as goal

abbrev made : ℕ → List Category → List Volunteer → Pool
made size categories volunteers = record { size = size; categories = categories; volunteers = volunteers }

pub from_parts-requires : goal.from_parts-requires
from_parts-requires c =
    let pool = c.args.pool.now in let team = c.args.team.now in let loose = (loosened pool team).categories in
    let categories : c.in_ok-categories.categories.items ≡ loose =
    c.in_ok-categories.ensures ∙ (c.categories.ensures ∙ (ap (λ (p : Pool). p.categories) c.in_ok-quotas.ensures ∙ ap (λ (members : List ℕ). (loosened pool members).categories) c.members.ensures.value)) in
    let volunteers : c.in_ok-volunteers.volunteers.items ≡ pool.volunteers = c.in_ok-volunteers.ensures ∙ c.volunteers.ensures in
    let same = ap (λ n. made n c.in_ok-categories.categories.items c.in_ok-volunteers.volunteers.items) c.size.ensures
    ∙ (ap (λ (cs : List Category). made pool.size cs c.in_ok-volunteers.volunteers.items) categories ∙ ap (λ (vs : List Volunteer). made pool.size loose vs) volunteers) in
    subst IsPool (sym same) (loosened_is_pool pool team c.facts.ensures c.requires)
