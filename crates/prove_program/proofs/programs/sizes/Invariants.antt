use Rattle.std.proofs.Common.{◌≡◌, map, take, pos}
use Rattle.prove_program.proofs.programs.sizes.Given as goal

abbrev pub invariant-loop-column : goal.invariant-loop-column
invariant-loop-column l = l.sizes.items ≡ map (λ column. pos column.size) (take l.column-index l.columns)
