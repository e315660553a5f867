use Rattle.std.proofs.Common.{refl}
use Rattle.std.specs.Fmt.{digits}
use Rattle.define_offices.proofs.worked_proofs.Goals as goal

pub returns-clause-kept : goal.returns-clause-kept
unfolding digits
returns-clause-kept c = refl

pub returns-clause-other_pool : goal.returns-clause-other_pool
unfolding digits
returns-clause-other_pool c = refl

pub returns-clause-no_panel : goal.returns-clause-no_panel
unfolding digits
returns-clause-no_panel c = refl

pub returns-clause-again : goal.returns-clause-again
unfolding digits
returns-clause-again c = refl
