use Rattle.std.proofs.Common.{◌≡◌, map}
use Rattle.std.specs.List.{range_with_len}
use Rattle.prove_program.specs.Programs.{own_column}
use Rattle.prove_program.proofs.columns.own_columns.Given as goal

abbrev pub invariant-loop-number : goal.invariant-loop-number
invariant-loop-number l = l.columns.items ≡ map (own_column l.pool) (range_with_len 0 l.number)
