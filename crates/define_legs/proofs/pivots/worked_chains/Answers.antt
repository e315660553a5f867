use Rattle.std.proofs.Common.{refl}
use Rattle.define_rows.specs.Binomials.{binomial}
use Rattle.define_legs.proofs.pivots.worked_chains.Goals as goal

pub returns-clause-four : goal.returns-clause-four
unfolding binomial
returns-clause-four c = refl

pub returns-clause-ten : goal.returns-clause-ten
unfolding binomial
returns-clause-ten c = refl
