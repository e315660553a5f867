-- The examples are proved by computation, with the definitions of `state` and of digits unfolded.
use Rattle.std.proofs.Common.{refl}
use Rattle.std.specs.Fmt.{digits}
use Rattle.define_made_pools.specs.Generator.{state}
use Rattle.define_made_pools.proofs.made_pools.Goals as goal

pub returns-clause-single : goal.returns-clause-single
unfolding state digits
returns-clause-single c = refl

pub returns-clause-values : goal.returns-clause-values
unfolding state
returns-clause-values c = refl

pub returns-clause-bounds : goal.returns-clause-bounds
unfolding state
returns-clause-bounds c = refl
