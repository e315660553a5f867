-- The examples are proved by computation, with the definition of digits unfolded.
use Rattle.std.proofs.Common.{refl}
use Rattle.std.specs.Fmt.{digits}
use Rattle.define_lines.proofs.worked_numbers.Goals as goal

pub returns-clause-unsigned : goal.returns-clause-unsigned
unfolding digits
returns-clause-unsigned c = refl

pub returns-clause-signed : goal.returns-clause-signed
unfolding digits
returns-clause-signed c = refl
