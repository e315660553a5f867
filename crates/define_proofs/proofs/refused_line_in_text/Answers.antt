use Rattle.define_proofs.proofs.TreesInText.{line_is_named}
use Rattle.define_proofs.proofs.refused_line_in_text.Goals as goal

pub returns : goal.returns
returns c = line_is_named
