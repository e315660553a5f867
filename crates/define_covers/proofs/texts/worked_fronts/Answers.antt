-- The examples are proved by computation, with the definition of digits unfolded.
use Rattle.std.proofs.Common.{refl}
use Rattle.std.specs.Fmt.{digits}
use Rattle.define_covers.proofs.texts.worked_fronts.Goals as goal

pub returns-clause-causes : goal.returns-clause-causes
unfolding digits
returns-clause-causes c = refl

pub returns-clause-no_causes : goal.returns-clause-no_causes
unfolding digits
returns-clause-no_causes c = refl

pub returns-clause-counts : goal.returns-clause-counts
unfolding digits
returns-clause-counts c = refl

pub returns-clause-no_counts : goal.returns-clause-no_counts
unfolding digits
returns-clause-no_counts c = refl
