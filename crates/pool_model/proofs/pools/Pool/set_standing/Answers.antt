use Rattle.define_pools.specs.Pool.{Pool}
use Rattle.define_pools.proofs.BuildingLemmas.{IsPool-standing_set, ids-with_standing}
use Rattle.pool_model.proofs.pools.Pool.set_standing.Goals as goal

pub invariant_of-self : goal.invariant_of-self
invariant_of-self c =
    let pool : Pool = record { size = c.self.inside.size; categories = c.self.inside.categories.items; volunteers = c.self.inside.volunteers.items } in
    rw c.set_standing_of.ensures (
      IsPool-standing_set pool c.args.number c.args.standing c.self.invariant.0,
      rw (ids-with_standing pool.volunteers c.args.number c.args.standing) c.self.invariant.1,
    )
