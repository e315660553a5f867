use Rattle.define_covers.proofs.RefusedCovers.{names_line}
use Rattle.define_covers.proofs.refused.refused_line_is_named.Goals as goal

pub returns : goal.returns
returns c = names_line
