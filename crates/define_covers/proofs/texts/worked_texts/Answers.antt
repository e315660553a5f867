-- The examples are proved by computation, with the definition of digits unfolded.
use Rattle.std.proofs.Common.{refl}
use Rattle.std.specs.Fmt.{digits}
use Rattle.define_covers.proofs.texts.worked_texts.Goals as goal

pub returns-clause-four : goal.returns-clause-four
unfolding digits
returns-clause-four c = refl

pub returns-clause-either : goal.returns-clause-either
unfolding digits
returns-clause-either c = refl
