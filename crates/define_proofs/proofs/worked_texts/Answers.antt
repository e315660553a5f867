-- The examples are proved by computation, with the definition of digits unfolded.
use Rattle.std.proofs.Common.{refl}
use Rattle.std.specs.Fmt.{digits}
use Rattle.define_proofs.proofs.worked_texts.Goals as goal

pub returns-clause-four : goal.returns-clause-four
unfolding digits
returns-clause-four c = refl

pub returns-clause-split : goal.returns-clause-split
unfolding digits
returns-clause-split c = refl

pub returns-clause-couple : goal.returns-clause-couple
unfolding digits
returns-clause-couple c = refl
