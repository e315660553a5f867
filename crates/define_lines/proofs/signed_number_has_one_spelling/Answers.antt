use Rattle.define_lines.proofs.NumberLemmas.{signed_again, signed_spelled}
use Rattle.define_lines.proofs.signed_number_has_one_spelling.Goals as goal

pub returns-clause-read : goal.returns-clause-read
returns-clause-read c = signed_again

pub returns-clause-spelled : goal.returns-clause-spelled
returns-clause-spelled c = signed_spelled
