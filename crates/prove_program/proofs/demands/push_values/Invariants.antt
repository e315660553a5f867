use Rattle.std.proofs.Common.{◌≡◌, ◌++◌, map, take}
use Rattle.std.specs.List.{enumerate_from}
use Rattle.define_proofs.specs.Constraints.{value_constraint}
use Rattle.prove_program.specs.Demands.{constraint_of}
use Rattle.prove_program.proofs.demands.push_values.Given as goal

abbrev pub invariant-loop-value : goal.invariant-loop-value
invariant-loop-value l = map (constraint_of l.pool) l.demands.items ≡ map (constraint_of l.pool) l.fn.demands.items ++ map (value_constraint l.pool l.category) (take l.value (enumerate_from 0 l.values))
