use Rattle.std.proofs.Common.{◌-◌, length}
use Rattle.loosening_by_proof.proofs.covers.+end_of_tree.Given as goal

-- how many nodes there are from the tree's first node on
abbrev pub decreases-end_of_tree : goal.decreases-end_of_tree
decreases-end_of_tree l = length l.nodes.now - l.at
