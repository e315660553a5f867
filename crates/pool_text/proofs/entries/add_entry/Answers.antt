use Rattle.std.proofs.Common.{◌≡◌, ℕ, List, Bor, map, None}
use Rattle.define_pools.specs.Building.{volunteer_kind}
use Rattle.define_pools.proofs.BuildingLemmas.{no_kind, none_in_large}
use Rattle.define_bundles.specs.PoolReading.{limits_in}
use Rattle.pool_text.proofs.entries.add_entry.Goals as goal

pub add_right_volunteer-requires : goal.add_right_volunteer-requires
add_right_volunteer-requires c =
    let limits = limits_in c.args.passed.version in
    let names : List (List ℕ) = map (λ (n : Bor (List ℕ)). n.now) c.in-Volunteer.values.now in
    let none : volunteer_kind limits c.args.pool.now c.in-Volunteer.id.now names ≡ None = (no_kind _ _ _ (rw c.in-Volunteer.is at c.requires.right)).1 in
    rw c.text_of-in-Volunteer.ensures (none_in_large limits c.args.pool.now c.in-Volunteer.id.now names none)
