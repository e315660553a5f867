-- The text of a proof: each proof has exactly one. Builds on BundleText of `define_bundles`, and on TreeLines and TreeRanges.
-- `proof_text` writes it.
use Rattle.std.specs.Prelude.{◌≡◌, ℕ, ◌+◌, nat_le, IsTrue, List, [], ◌∷◌, ◌++◌, length, map, codes}
use Rattle.std.specs.Fmt.{decimal, signed_decimal}
use Rattle.std.specs.List.{flat_map, list_all}
use Rattle.define_pools.specs.Certificate.{Answer}
use Rattle.define_pools.specs.Pool.{IsPool, Pool, limits_for, most_volunteers}
use Rattle.define_lines.specs.Lines.{line_of, text_of}
use Rattle.define_bundles.specs.BundleText.{IsBundle, done_line, lines_before_done, pool_lines}
use Rattle.define_proofs.specs.Leaves.{Leaf, Multiplier}
use Rattle.define_proofs.specs.ProofVerdict.{OfLottery, OfNoPanel, Proof}
use Rattle.define_proofs.specs.TreeLines.{OfLeaf, OfSplit, TreeLine}
use Rattle.define_proofs.specs.TreeRanges.{is_tree_line}

-- the most trees that a proof over a pool of `volunteers` can have: it has one for each stage, and each stage settles at least one
-- volunteer
abbrev pub most_trees : ℕ → ℕ
most_trees volunteers = most_volunteers (limits_for volunteers)

-- what makes a proof of a lottery: pool and answer are a bundle; each stage has a tree, whose lines are in their ranges; and there are at
-- most `most_trees` trees
pub record IsLotteryProof (pool : Pool) (answer : Answer) (trees : List (List TreeLine)) : Type 0 where
  pub is_bundle : IsBundle (record { pool = pool; answer = answer })
  pub one_each : length trees ≡ length answer.stages
  pub few_trees : IsTrue (nat_le (length trees) (most_trees (length pool.volunteers)))
  pub in_ranges : IsTrue (list_all (λ lines. list_all (is_tree_line (length pool.volunteers)) lines) trees)

-- what makes a proof that there is no quota panel: the pool satisfies `IsPool`, and the tree's lines are in their ranges
pub record IsNoPanelProof (pool : Pool) (lines : List TreeLine) : Type 0 where
  pub is_pool : IsPool pool
  pub in_ranges : IsTrue (list_all (is_tree_line (length pool.volunteers)) lines)

abbrev pub IsProof : Proof → Type 0
IsProof (OfLottery pool answer trees) = IsLotteryProof pool answer trees
IsProof (OfNoPanel pool lines) = IsNoPanelProof pool lines

-- the first line of a proof's text
abbrev pub proof_line : List ℕ
proof_line = line_of (codes "proof" ∷ codes "1" ∷ [])

-- the line after a pool without a quota panel
abbrev pub none_line : List ℕ
none_line = codes "none"

-- the line that begins tree `number`. A stage's tree has the stage's number, from 1; the tree of a pool without a quota panel has the
-- number 0
abbrev pub tree_line : ℕ → List ℕ
tree_line number = line_of (codes "tree" ∷ decimal number ∷ [])

-- the fields of a multiplier: the number of its constraint, and its factor, with `-` before the digits if the factor is negative
abbrev pub multiplier_fields : Multiplier → List (List ℕ)
multiplier_fields multiplier = decimal multiplier.number ∷ signed_decimal multiplier.factor ∷ []

-- the line of a leaf: its scale, and its multipliers
abbrev pub leaf_line : Leaf → List ℕ
leaf_line leaf = line_of (codes "bound" ∷ decimal leaf.scale ∷ flat_map multiplier_fields leaf.multipliers)

-- the line of a split or a leaf
abbrev pub node_line : TreeLine → List ℕ
node_line (OfSplit i) = line_of (codes "split" ∷ decimal i ∷ [])
node_line (OfLeaf leaf) = leaf_line leaf

-- the line that begins tree `number`, then the lines of its nodes
abbrev pub tree_lines : ℕ → List TreeLine → List (List ℕ)
tree_lines number lines = tree_line number ∷ map node_line lines

-- the lines of trees, numbered from `number` on
abbrev pub trees_from : ℕ → List (List TreeLine) → List (List ℕ)
trees_from number [] = []
trees_from number (lines ∷ later) = tree_lines number lines ++ trees_from (number + 1) later

-- the last line of a proof's text
abbrev pub close_line : List ℕ
close_line = codes "close"

-- the lines of a bundle
abbrev pub bundle_lines : Pool → Answer → List (List ℕ)
bundle_lines pool answer = lines_before_done pool answer ++ done_line ∷ []

-- the lines of a proof before the last
abbrev pub lines_before_close : Proof → List (List ℕ)
lines_before_close (OfLottery pool answer trees) = proof_line ∷ (bundle_lines pool answer ++ trees_from 1 trees)
lines_before_close (OfNoPanel pool lines) = proof_line ∷ (pool_lines pool ++ (none_line ∷ tree_lines 0 lines))

-- the text of a proof
abbrev pub proof_spelling : Proof → List ℕ
proof_spelling proof = text_of (lines_before_close proof ++ close_line ∷ [])
