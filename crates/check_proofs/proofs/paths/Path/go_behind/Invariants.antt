use Rattle.std.proofs.Common.{◌≡◌, length}
use Rattle.define_proofs.specs.TreeLines.{path_behind}
use Rattle.check_proofs.proofs.paths.Path.go_behind.Given as goal

-- the path of the next line, computed from the decisions that are left, is the one computed from all decisions
abbrev pub invariant-loop-latest : goal.invariant-loop-latest
invariant-loop-latest l = record {
  pool : l.self.pool ≡ l.initial.self.pool;
  same : path_behind l.initial.self.decisions ≡ path_behind l.self.decisions;
}

abbrev pub decreases-loop-latest : goal.decreases-loop-latest
decreases-loop-latest l = length l.self.decisions
