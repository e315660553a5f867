use Rattle.std.proofs.Common.{◌≡◌, ◌∷◌, map, take}
use Rattle.std.specs.List.{enumerate_from, flat_map}
use Rattle.define_proofs.specs.Constraints.{category_constraints, size_constraint}
use Rattle.prove_program.specs.Demands.{constraint_of}
use Rattle.prove_program.proofs.demands.quota_demands.Given as goal

abbrev pub invariant-loop-place : goal.invariant-loop-place
invariant-loop-place l = map (constraint_of l.pool) l.demands.items ≡ size_constraint l.pool ∷ flat_map (category_constraints l.pool) (take l.place (enumerate_from 0 l.pool.categories))
