use Rattle.std.proofs.Common.{◌≡◌, map, filter, take}
use Rattle.std.specs.List.{enumerate_from}
use Rattle.prove_program.specs.Demands.{constraint_of}
use Rattle.prove_program.specs.Programs.{can_break, row_of}
use Rattle.prove_program.proofs.rows.rows.Given as goal

abbrev pub invariant-loop-number : goal.invariant-loop-number
invariant-loop-number l = l.rows.items ≡ map (row_of l.columns) (filter (can_break l.columns) (take l.number (enumerate_from 0 (map (constraint_of l.pool) l.demands))))
