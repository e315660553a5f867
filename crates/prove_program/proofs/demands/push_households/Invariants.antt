use Rattle.std.proofs.Common.{◌≡◌, ◌++◌, map, filter}
use Rattle.define_proofs.specs.Constraints.{household_constraint}
use Rattle.std.specs.List.{range_with_len}
use Rattle.define_searches.specs.Classes.{shared_household}
use Rattle.define_searches.specs.Compositions.{is_of_household}
use Rattle.prove_program.specs.Demands.{constraint_of}
use Rattle.prove_program.proofs.demands.push_households.Given as goal

abbrev pub invariant-loop-number : goal.invariant-loop-number
invariant-loop-number l =
    map (constraint_of l.pool) l.demands.items
    ≡ map (constraint_of l.pool) l.fn.demands.items ++ map (household_constraint l.pool) (filter (λ i. is_of_household i (shared_household l.pool.volunteers i)) (range_with_len 0 l.number))
