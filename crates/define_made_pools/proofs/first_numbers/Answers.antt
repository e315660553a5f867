-- The examples are proved by computation, with the definition of `state` unfolded.
use Rattle.std.proofs.Common.{refl}
use Rattle.define_made_pools.specs.Generator.{state}
use Rattle.define_made_pools.proofs.first_numbers.Goals as goal

pub returns-clause-zero : goal.returns-clause-zero
unfolding state
returns-clause-zero c = refl

pub returns-clause-seven : goal.returns-clause-seven
unfolding state
returns-clause-seven c = refl

pub returns-clause-greatest : goal.returns-clause-greatest
unfolding state
returns-clause-greatest c = refl
