-- The examples are proved by computation, with the definition of digits unfolded.
use Rattle.std.proofs.Common.{refl}
use Rattle.std.specs.Fmt.{digits}
use Rattle.define_proofs.proofs.worked_lines.Goals as goal

pub returns-clause-marks : goal.returns-clause-marks
unfolding digits
returns-clause-marks c = refl

pub returns-clause-last : goal.returns-clause-last
unfolding digits
returns-clause-last c = refl

pub returns-clause-splits : goal.returns-clause-splits
unfolding digits
returns-clause-splits c = refl

pub returns-clause-leaves : goal.returns-clause-leaves
unfolding digits
returns-clause-leaves c = refl

pub returns-clause-no_leaves : goal.returns-clause-no_leaves
unfolding digits
returns-clause-no_leaves c = refl

pub returns-clause-large : goal.returns-clause-large
unfolding digits
returns-clause-large c = refl
