use Rattle.std.proofs.lemmas.Str.{is_utf8-from_IsUtf8}
use Rattle.define_pools.specs.Pool.{Pool}
use Rattle.define_pools.proofs.BuildingLemmas.{IsPool-household_set}
use Rattle.pool_model.proofs.IdsInOrder.{ids-housed}
use Rattle.pool_model.proofs.pools.Pool.set_right_household.Goals as goal

pub invariant_of-self : goal.invariant_of-self
invariant_of-self c =
    let pool : Pool = record { size = c.self.inside.size; categories = c.self.inside.categories.items; volunteers = c.self.inside.volunteers.items } in
    let name = c.args.name.now in
    rw (c.set_household_of.ensures, c.in_ok-household.ensures) (
      IsPool-household_set pool c.args.number name c.self.invariant.0 c.requires.name (is_utf8-from_IsUtf8 name c.utf8.name),
      rw (ids-housed pool.volunteers c.args.number name) c.self.invariant.1,
    )
