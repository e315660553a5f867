use Rattle.std.proofs.Common.{◌≡◌, ◌+◌, drop}
use Rattle.define_proofs.specs.Leaves.{standings}
use Rattle.define_proofs.specs.TreeLines.{fault_from, tree_fault}
use Rattle.check_proofs.specs.Steps.{place}
use Rattle.check_proofs.proofs.trees.tree_fault.Given as goal

-- the first fault of all lines is the first fault of the lines that are left, from the path so far
abbrev pub invariant-loop-k : goal.invariant-loop-k
invariant-loop-k l = record {
  pool : l.path.pool ≡ l.pool;
  same : tree_fault l.problem (standings l.pool) l.number l.lines ≡ fault_from l.problem (standings l.pool) (l.number + l.k) (place l.goes_on l.path.decisions) (drop l.k l.lines);
}
