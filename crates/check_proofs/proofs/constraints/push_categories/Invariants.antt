use Rattle.std.proofs.Common.{◌≡◌, ◌++◌, take}
use Rattle.std.specs.List.{enumerate_from, flat_map}
use Rattle.define_proofs.specs.Constraints.{category_constraints}
use Rattle.check_proofs.proofs.constraints.push_categories.Given as goal

-- the constraints of the categories so far are added
abbrev pub invariant-loop-c : goal.invariant-loop-c
invariant-loop-c l = l.rows.items ≡ l.initial.rows.items ++ flat_map (category_constraints l.pool) (take l.c (enumerate_from 0 l.pool.categories))
