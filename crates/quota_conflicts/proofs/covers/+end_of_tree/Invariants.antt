use Rattle.std.proofs.Common.{◌-◌, length}
use Rattle.quota_conflicts.proofs.covers.+end_of_tree.Given as goal

-- how many nodes there are from place `at` on: fewer in each inner call
abbrev pub decreases-end_of_tree : goal.decreases-end_of_tree
decreases-end_of_tree l = length l.nodes.now - l.at
