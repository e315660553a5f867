use Rattle.define_covers.proofs.TreesInText.{line_is_named}
use Rattle.define_covers.proofs.refused.refused_line_in_text.Goals as goal

pub returns : goal.returns
returns c = line_is_named
