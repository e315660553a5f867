-- Trees as lists of lines, and the first fault of lines that are not those of a tree that shows a cap. Builds on Trees. `check_proofs`
-- walks them.
use Rattle.std.specs.Prelude.{◌≡◌, ℕ, ◌+◌, if◌then◌else◌, Bool, true, false, IsTrue, List, [], ◌∷◌, ◌++◌, slice_set, Option, Some, None}
use Rattle.define_pools.specs.declared.Standing.{Standing}
use Rattle.define_pools.specs.declared.Standing.TheVariants.{Seated, Gone}
use Rattle.define_proofs.specs.Leaves.{Leaf, Problem, leaf_shows}
use Rattle.define_proofs.specs.Trees.{AtLeaf, AtSplit, Tree, is_undecided, tree_shows}

-- a line of a tree: a split on a volunteer, or a leaf
pub data TreeLine : Type 0 where
  OfSplit : (i : ℕ) → TreeLine
  OfLeaf : (leaf : Leaf) → TreeLine

-- the lines of a tree: a split comes before its subtrees, and the subtree without the volunteer before the one with the volunteer
abbrev pub lines_of : Tree → List TreeLine
lines_of (AtLeaf leaf) = OfLeaf leaf ∷ []
lines_of (AtSplit i without with) = OfSplit i ∷ (lines_of without ++ lines_of with)

-- `lines` are the lines of a tree that shows the problem's cap
pub record AreOfTree (problem : Problem) (standings : List Standing) (lines : List TreeLine) : Type 0 where
  pub tree : Tree
  pub its_lines : lines_of tree ≡ lines
  pub shows : IsTrue (tree_shows problem standings tree)

-- ---- the first fault of a list of lines

-- a decision of a path: the volunteer of a split, and whether the path is in the subtree with this volunteer
pub record Decision : Type 0 where
  pub volunteer : ℕ
  pub is_in : Bool

-- the standing of a decision's volunteer: seated if `is_in`, else gone
abbrev pub decided_standing : Bool → Standing
decided_standing is_in = if is_in then Seated else Gone

-- the standings after a path's decisions, of which the latest comes first
abbrev pub standings_at : List Standing → List Decision → List Standing
standings_at standings [] = standings
standings_at standings (decision ∷ path) = slice_set (standings_at standings path) decision.volunteer (decided_standing decision.is_in)

-- the path of the line after a leaf: the latest decision without its volunteer becomes a decision with this volunteer, and later decisions
-- are dropped. None if all decisions are with their volunteers: the leaf was the tree's last
abbrev pub path_behind : List Decision → Option (List Decision)
path_behind [] = None
path_behind (decision ∷ path) = if decision.is_in then path_behind path else Some (record decision { is_in = true } ∷ path)

-- the number of a line, and the reason for which it is refused
pub record TreeFault : Type 0 where
  pub line : ℕ
  pub reason : ℕ

abbrev pub fault : ℕ → ℕ → Option TreeFault
fault line reason = Some (record { line = line; reason = reason })

-- the first fault of lines that go on at a path, or None if they complete the tree. The first of them is line `number`. 11: a split is on
-- someone who isn't undecided, the lines end before the tree is complete, or a line follows its end. 12: a leaf's multipliers don't show
-- the cap
abbrev pub fault_from : Problem → List Standing → ℕ → Option (List Decision) → List TreeLine → Option TreeFault
fault_from problem standings number None [] = None
fault_from problem standings number None (line ∷ later) = fault number 11
fault_from problem standings number (Some path) [] = fault number 11
fault_from problem standings number (Some path) (OfSplit i ∷ later) =
    if is_undecided (standings_at standings path) i
    then fault_from problem standings (number + 1) (Some (record { volunteer = i; is_in = false } ∷ path)) later
    else fault number 11
fault_from problem standings number (Some path) (OfLeaf leaf ∷ later) =
    if leaf_shows problem (standings_at standings path) leaf
    then fault_from problem standings (number + 1) (path_behind path) later
    else fault number 12

-- the first fault of the lines of a tree, given the number of its first line
abbrev pub tree_fault : Problem → List Standing → ℕ → List TreeLine → Option TreeFault
tree_fault problem standings number lines = fault_from problem standings number (Some []) lines
