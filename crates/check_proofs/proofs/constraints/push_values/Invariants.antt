use Rattle.std.proofs.Common.{◌≡◌, ◌++◌, map, take}
use Rattle.std.specs.List.{enumerate_from}
use Rattle.define_proofs.specs.Constraints.{value_constraint}
use Rattle.check_proofs.proofs.constraints.push_values.Given as goal

-- the constraints of the values so far are added
abbrev pub invariant-loop-v : goal.invariant-loop-v
invariant-loop-v l = l.rows.items ≡ l.initial.rows.items ++ map (value_constraint l.pool l.c) (take l.v (enumerate_from 0 l.category.values))
