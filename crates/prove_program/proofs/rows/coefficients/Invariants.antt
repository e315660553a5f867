use Rattle.std.proofs.Common.{◌≡◌, map, take}
use Rattle.define_proofs.specs.Constraints.{coefficient}
use Rattle.prove_program.specs.Demands.{constraint_of}
use Rattle.prove_program.proofs.rows.coefficients.Given as goal

abbrev pub invariant-loop-column : goal.invariant-loop-column
invariant-loop-column l = l.values.items ≡ map (λ column. coefficient (constraint_of l.pool l.demand) column.first) (take l.column-index l.columns)
