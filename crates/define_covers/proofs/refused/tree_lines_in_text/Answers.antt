use Rattle.define_covers.proofs.TreesInText.{tree_lines_stand}
use Rattle.define_covers.proofs.refused.tree_lines_in_text.Goals as goal

pub returns : goal.returns
returns c = tree_lines_stand
