-- The ranges of the numbers in a tree's lines. Within them a line has a text, and no sum of a check passes 128 bits. Builds on TreeLines.
-- Proofs that ProofReading reads keep to them.
use Rattle.std.specs.Prelude.{ℕ, ◌+◌, ◌*◌, ◌^◌, nat_lt, nat_le, Bool, ◌&&◌, List, map, unsigned_abs}
use Rattle.std.specs.List.{list_all}
use Rattle.define_pools.specs.declared.Limits.TheVariants.{Large}
use Rattle.define_pools.specs.Lists.{is_increasing}
use Rattle.define_pools.specs.Pool.{limits_for, most_volunteers}
use Rattle.define_proofs.specs.Leaves.{Leaf, Multiplier}
use Rattle.define_proofs.specs.TreeLines.{OfLeaf, OfSplit, TreeLine}

-- the limit of three numbers: of a leaf's scale, of the absolute value of a factor, and of the sum of the absolute values of a stage's cap
-- and weights
abbrev pub number_limit : ℕ
number_limit = 2 ^ 56

-- the greatest number of a constraint, counted from 0, in a pool of `volunteers`: there is one for the size, at most 1000 for values, and as
-- many as the limit of volunteers for earlier stages and for households
abbrev pub last_constraint : ℕ → ℕ
last_constraint volunteers = 1000 + 2 * most_volunteers (limits_for volunteers)

-- the greatest number of a constraint in any pool
abbrev pub greatest_constraint : ℕ
greatest_constraint = 1000 + 2 * most_volunteers Large

abbrev pub is_multiplier : Multiplier → Bool
is_multiplier multiplier =
    nat_le multiplier.number greatest_constraint && nat_lt 0 (unsigned_abs multiplier.factor) && nat_le (unsigned_abs multiplier.factor) number_limit

-- the scale is at most 2^56, the multipliers are in range with factors other than 0, and the numbers of their constraints rise
abbrev pub is_leaf : Leaf → Bool
is_leaf leaf =
    nat_le leaf.scale number_limit && list_all is_multiplier leaf.multipliers && is_increasing (map (λ multiplier. multiplier.number) leaf.multipliers)

-- no multiplier has a greater number than a constraint of a pool of `volunteers` has
abbrev pub are_constraints : ℕ → List Multiplier → Bool
are_constraints volunteers multipliers = list_all (λ multiplier. nat_le multiplier.number (last_constraint volunteers)) multipliers

-- a split on a volunteer below `volunteers`, or a leaf in its ranges
abbrev pub is_tree_line : ℕ → TreeLine → Bool
is_tree_line volunteers (OfSplit i) = nat_lt i volunteers
is_tree_line volunteers (OfLeaf leaf) = is_leaf leaf && are_constraints volunteers leaf.multipliers
