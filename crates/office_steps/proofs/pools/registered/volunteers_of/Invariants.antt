use Rattle.std.proofs.Common.{◌≡◌, map, take}
use Rattle.define_offices.specs.Pools.{volunteer_of}
use Rattle.office_steps.proofs.pools.registered.volunteers_of.Given as goal

abbrev pub invariant-loop-entry : goal.invariant-loop-entry
invariant-loop-entry l = l.volunteers.items ≡ map (volunteer_of l.categories) (take l.entry-index l.register)
