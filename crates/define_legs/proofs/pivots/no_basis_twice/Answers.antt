use Rattle.define_legs.proofs.Chains.{no_basis-twice}
use Rattle.define_legs.proofs.pivots.no_basis_twice.Goals as goal

pub returns : goal.returns
returns c = no_basis-twice
