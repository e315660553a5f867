-- Small proofs, on which the definitions compute. The worked examples of this crate and of `define_offices` use them.
use Rattle.std.specs.Prelude.{ℕ, List, [], ◌∷◌, ℤ, pos, negsuc}
use Rattle.define_pools.specs.WorkedExamples.{couple, four, four_lottery, four_stages, stage}
use Rattle.define_proofs.specs.Constraints.{Constraint}
use Rattle.define_proofs.specs.Leaves.{Leaf, Multiplier}
use Rattle.define_proofs.specs.ProofVerdict.{OfLottery, OfNoPanel, Proof}
use Rattle.define_proofs.specs.Trees.{AtLeaf, AtSplit, Tree}
use Rattle.define_proofs.specs.TreeLines.{OfLeaf, OfSplit, TreeLine}

abbrev pub times : ℕ → ℤ → Multiplier
times number factor = record { number = number; factor = factor }

abbrev pub leaf : ℕ → List Multiplier → Leaf
leaf scale multipliers = record { scale = scale; multipliers = multipliers }

-- ---- over two women, a and b, and two men, c and d: constraint 0 is the size, 1 the women, 2 the men, and 3 the first stage

-- a leaf of scale 1: the women's constraint, times 1
abbrev pub women_leaf : Leaf
women_leaf = leaf 1 (times 1 (pos 1) ∷ [])

-- a leaf of scale 1: the men's constraint, times 1, and the first stage's, times -1
abbrev pub men_leaf : Leaf
men_leaf = leaf 1 (times 2 (pos 1) ∷ times 3 (negsuc 0) ∷ [])

abbrev pub four_trees : List (List TreeLine)
four_trees = (OfLeaf women_leaf ∷ []) ∷ (OfLeaf men_leaf ∷ []) ∷ []

-- a proof of the answer for two women and two men by these trees
abbrev pub four_proof : List (List TreeLine) → Proof
four_proof trees = OfLottery four (record { lottery = four_lottery; stages = four_stages }) trees

-- a constraint with a coefficient for each of the four volunteers
abbrev pub constraint : List ℤ → ℤ → ℤ → Constraint
constraint coefficients lower upper = record { coefficients = coefficients; lower = lower; upper = upper }

-- a leaf of scale 1 that doesn't show the cap: the women's constraint, times 2
abbrev pub double_leaf : Leaf
double_leaf = leaf 1 (times 1 (pos 2) ∷ [])

-- a leaf with a multiplier of constraint 3, which the first stage doesn't have
abbrev pub unknown_leaf : Leaf
unknown_leaf = leaf 1 (times 1 (pos 1) ∷ times 3 (pos 1) ∷ [])

-- a split on a: without a, only b weighs 1, and no constraint is needed; with a, the women's constraint shows the cap
abbrev pub split_tree : Tree
split_tree = AtSplit 0 (AtLeaf (leaf 1 [])) (AtLeaf women_leaf)

abbrev pub split_lines : List TreeLine
split_lines = OfSplit 0 ∷ OfLeaf (leaf 1 []) ∷ OfLeaf women_leaf ∷ []

-- a proof of an answer for two women and two men: one stage, in which each of the four weighs 1, and its tree, which is the leaf `all`
abbrev pub one_stage_proof : ℤ → Leaf → Proof
one_stage_proof cap all = OfLottery four (record { lottery = four_lottery; stages = stage cap (pos 1 ∷ pos 1 ∷ pos 1 ∷ pos 1 ∷ []) ∷ [] }) ((OfLeaf all ∷ []) ∷ [])

-- a leaf of scale 1 for a stage in which each weighs 1: the size's constraint, times 1
abbrev pub size_leaf : Leaf
size_leaf = leaf 1 (times 0 (pos 1) ∷ [])

-- ---- over one woman and one man of one household, and two seats: constraint 0 is the size, 3 the household

abbrev pub couple_lines : List TreeLine
couple_lines = OfLeaf (leaf 0 (times 0 (negsuc 0) ∷ times 3 (pos 1) ∷ [])) ∷ []

abbrev pub couple_proof : List TreeLine → Proof
couple_proof lines = OfNoPanel couple lines
