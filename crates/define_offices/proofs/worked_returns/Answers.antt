use Rattle.std.proofs.Common.{refl}
use Rattle.std.specs.Fmt.{digits}
use Rattle.define_offices.proofs.worked_returns.Goals as goal

pub returns-clause-reopened : goal.returns-clause-reopened
unfolding digits
returns-clause-reopened c = refl

pub returns-clause-undropped : goal.returns-clause-undropped
unfolding digits
returns-clause-undropped c = refl
