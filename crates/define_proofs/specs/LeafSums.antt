-- Whether the numbers of a problem are within reach, and the partial sums of a leaf's check. Builds on Leaves and TreeRanges, and on Ranges
-- of `define_bundles`. The law `leaf_sums_are_narrow` and `check_proofs` use them.
use Rattle.std.specs.Prelude.{ℕ, nat_le, Bool, ◌&&◌, List, take, sum_by, unsigned_abs, ℤ, ◌+ℤ◌}
use Rattle.std.specs.List.{enumerate_from, list_all}
use Rattle.define_bundles.specs.Ranges.{reach}
use Rattle.define_pools.specs.Certificate.{Stage}
use Rattle.define_pools.specs.declared.Standing.{Standing}
use Rattle.define_proofs.specs.Constraints.{Constraint, signed_sum}
use Rattle.define_proofs.specs.Leaves.{Leaf, Problem, charge, rest, rest_charge}
use Rattle.define_proofs.specs.TreeRanges.{number_limit}

-- the absolute values of the coefficients sum to at most 2^56, and the absolute value of each bound is at most 2^56
abbrev pub is_in_reach : Constraint → Bool
is_in_reach constraint =
    nat_le (sum_by unsigned_abs constraint.coefficients) number_limit
    && nat_le (unsigned_abs constraint.lower) number_limit && nat_le (unsigned_abs constraint.upper) number_limit

-- the absolute values of a stage's weights and cap sum to at most 2^56
abbrev pub is_stage_in_reach : Stage → Bool
is_stage_in_reach stage = nat_le (reach stage) number_limit

abbrev pub is_problem_in_reach : Problem → Bool
is_problem_in_reach problem = list_all is_in_reach problem.constraints && is_stage_in_reach problem.stage

-- the leaf with only the first `many` of its multipliers
abbrev pub first_multipliers : ℕ → Leaf → Leaf
first_multipliers many leaf = record leaf { multipliers = take many leaf.multipliers }

-- the sum of the charges of the first `many` multipliers
abbrev pub first_charges : Problem → ℕ → Leaf → ℤ
first_charges problem many leaf = signed_sum (charge problem.constraints) (take many leaf.multipliers)

-- the sum of the charges of all multipliers and of the rests of the first `many` volunteers
abbrev pub charges_and_rests : Problem → List Standing → ℕ → Leaf → ℤ
charges_and_rests problem standings many leaf =
    signed_sum (charge problem.constraints) leaf.multipliers
    +ℤ signed_sum (λ (i, standing). rest_charge standing (rest problem leaf i)) (take many (enumerate_from 0 standings))
