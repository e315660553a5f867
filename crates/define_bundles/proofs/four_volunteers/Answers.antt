-- To compute the examples, the definition of `digits` is unfolded.
use Rattle.std.proofs.Common.{refl}
use Rattle.std.specs.Fmt.{digits}
use Rattle.define_bundles.proofs.four_volunteers.Goals as goal

pub returns-clause-length : goal.returns-clause-length
unfolding digits
returns-clause-length c = refl

pub returns-clause-lines : goal.returns-clause-lines
unfolding digits
returns-clause-lines c = refl
