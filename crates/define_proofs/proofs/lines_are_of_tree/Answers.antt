use Rattle.define_proofs.proofs.ByLines.{no_fault_where_of_tree, of_tree_where_no_fault}
use Rattle.define_proofs.proofs.lines_are_of_tree.Goals as goal

pub returns : goal.returns
returns c problem all number lines = (of_tree_where_no_fault problem all number lines, no_fault_where_of_tree problem all number lines)
