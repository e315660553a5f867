-- Trees over volunteers: a split decides a volunteer, who is on no panel of one subtree and on each panel of the other. Builds on Leaves.
-- `check_proofs` checks them, the engine of `prove` makes them.
use Rattle.std.specs.Prelude.{ℕ, Bool, true, false, ◌&&◌, List, slice_index_or, slice_set}
use Rattle.define_pools.specs.declared.Standing.{Standing}
use Rattle.define_pools.specs.declared.Standing.TheVariants.{Open, Seated, Gone}
use Rattle.define_proofs.specs.Leaves.{Leaf, Problem, leaf_shows}

-- a leaf, or a split on a volunteer with two subtrees: without and with this volunteer
pub data Tree : Type 0 where
  AtLeaf : (leaf : Leaf) → Tree
  AtSplit : (i : ℕ) → (without with : Tree) → Tree

abbrev pub is_open : Standing → Bool
is_open Open = true
is_open Seated = false
is_open Gone = false

-- a volunteer's standing is open: neither the pool nor a split has decided it
abbrev pub is_undecided : List Standing → ℕ → Bool
is_undecided standings i = is_open (slice_index_or standings i Gone)

-- a tree shows the cap for panels that keep `standings` and meet the constraints: each split is on an undecided volunteer, and each leaf
-- shows the cap for the standings that the splits leave
abbrev pub tree_shows : Problem → List Standing → Tree → Bool
tree_shows problem standings (AtLeaf leaf) = leaf_shows problem standings leaf
tree_shows problem standings (AtSplit i without with) =
    is_undecided standings i
    && tree_shows problem (slice_set standings i Gone) without
    && tree_shows problem (slice_set standings i Seated) with
