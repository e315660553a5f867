use Rattle.define_lines.proofs.NumberLemmas.{number_again, number_spelled}
use Rattle.define_lines.proofs.number_has_one_spelling.Goals as goal

pub returns-clause-read : goal.returns-clause-read
returns-clause-read c = number_again

pub returns-clause-spelled : goal.returns-clause-spelled
returns-clause-spelled c = number_spelled
