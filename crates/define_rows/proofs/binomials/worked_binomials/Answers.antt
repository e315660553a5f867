use Rattle.std.proofs.Common.{refl, ◌∙◌}
use Rattle.define_rows.specs.Binomials.{binomial}
use Rattle.define_rows.proofs.BinomialLaws.{choose_one, choose_others}
use Rattle.define_rows.proofs.binomials.worked_binomials.Goals as goal

pub returns-clause-none : goal.returns-clause-none
unfolding binomial
returns-clause-none c = refl

pub returns-clause-four : goal.returns-clause-four
unfolding binomial
returns-clause-four c = refl

pub returns-clause-ten : goal.returns-clause-ten
unfolding binomial
returns-clause-ten c = refl

pub returns-clause-many : goal.returns-clause-many
returns-clause-many c = choose_others 401 1 402 refl ∙ choose_one 402
