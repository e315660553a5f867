use Rattle.std.proofs.Common.{◌≡◌, ℕ, List, Bor, map, None, ap, ◌∙◌}
use Rattle.std.proofs.lemmas.Str.{is_utf8-from_IsUtf8}
use Rattle.define_pools.specs.Pool.{Pool, Volunteer}
use Rattle.define_pools.specs.declared.Limits.TheVariants.{Large}
use Rattle.define_pools.specs.Building.{volunteer_kind, places_of, ids}
use Rattle.define_pools.proofs.BuildingLemmas.{IsPool-volunteer_added}
use Rattle.define_pools.specs.declared.Standing.TheVariants.{Open}
use Rattle.pool_model.specs.IdOrder.{follows_last}
use Rattle.pool_model.proofs.IdsInOrder.{stay_in_order}
use Rattle.pool_model.proofs.pools.Pool.add_right_volunteer.Goals as goal

pub invariant_of-self-2 : goal.invariant_of-self-2
invariant_of-self-2 c =
    let pool : Pool = record { size = c.self.inside.size; categories = c.self.inside.categories.items; volunteers = c.self.inside.volunteers.items } in
    let id = c.args.id.now in
    let names : List (List ℕ) = map (λ (n : Bor (List ℕ)). n.now) c.args.values.now in
    let none : volunteer_kind Large pool id names ≡ None = ap (λ p. volunteer_kind Large p id names) c.self.view_is ∙ c.requires in
    let placed : c.in_ok-places.places.items ≡ places_of pool.categories names =
    c.in_ok-places.ensures ∙ ap (λ categories. places_of categories names) c.deref.ensures.value in
    let added : Volunteer = record { id = id; values = places_of pool.categories names; standing = Open; household = None } in
    let follows = c.follows_last-follows.ensures ∙ ap (λ known. follows_last (ids known) c.as_bytes.result.now) c.deref-2.ensures.value ∙ ap (follows_last (ids pool.volunteers)) c.as_bytes.ensures.value in
    rw (c.in_ok-push.ensures.items, c.new-volunteer.ensures, c.in_ok-new.ensures, placed) (
      IsPool-volunteer_added Large pool id names c.self.invariant.0 none (is_utf8-from_IsUtf8 id c.utf8.id),
      stay_in_order pool.volunteers added c.self.inside.ids_in_order c.follows_last-follows.result c.self.invariant.1 follows,
    )
