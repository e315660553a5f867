use Rattle.define_proofs.proofs.Refused.{names_line}
use Rattle.define_proofs.proofs.refused_line_is_named.Goals as goal

pub returns : goal.returns
returns c = names_line
