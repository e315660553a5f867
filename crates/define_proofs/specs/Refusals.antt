-- What a refusal of a proof says of the certificate, and which line of the proof's text it names. Builds on ProofVerdict. The meanings of
-- `verify` and `prove` cite it, and so do the headline and LinesInText.
use Rattle.std.specs.Prelude.{◌≡◌, ℕ, ◌+◌, ◌-◌, ◌<◌, ◌≤◌, List, [], ◌∷◌, ◌++◌, length, reverse, slice_index_or, take}
use Rattle.define_checks.specs.Reasons.{Refusal}
use Rattle.define_pools.specs.Certificate.{Answer, Certifies, Stage}
use Rattle.define_pools.specs.Pool.{Pool}
use Rattle.define_proofs.specs.Leaves.{no_panel_problem, stage_problem, standings}
use Rattle.define_proofs.specs.ProofVerdict.{OfLottery, OfNoPanel, Proof, lines_before_tree}
use Rattle.define_proofs.specs.TreeLines.{TreeLine, fault, tree_fault}

-- if the reason is below 11, the certificate doesn't hold. Reasons from 11 on are about the trees and say nothing of the certificate. A
-- proof that there is no quota panel has no certificate; it is refused only for reasons from 11 on
abbrev pub RefusalMeans : Proof → Refusal → Type 0
RefusalMeans (OfLottery pool answer trees) refusal = refusal.reason < 11 → Certifies pool answer.lottery answer.stages → ⊥
RefusalMeans (OfNoPanel pool lines) refusal = 11 ≤ refusal.reason

-- ---- which line of the text is named

-- the number of lines of all trees of a list in a proof's text, with one more after each tree for the line that begins the next tree
abbrev pub lines_of_trees : List (List TreeLine) → ℕ
lines_of_trees [] = 0
lines_of_trees (lines ∷ later) = length lines + 1 + lines_of_trees later

-- the tree of a stage, by the stage's number; a proof that there is no quota panel has one tree
abbrev pub tree_of : Proof → ℕ → List TreeLine
tree_of (OfLottery pool answer trees) stage = slice_index_or trees (stage - 1) []
tree_of (OfNoPanel pool lines) stage = lines

-- how many lines of the text come before the first line of the tree of `stage`
abbrev pub lines_before : Proof → ℕ → ℕ
lines_before (OfLottery pool answer trees) stage = lines_before_tree (OfLottery pool answer trees) + lines_of_trees (take (stage - 1) trees)
lines_before (OfNoPanel pool lines) stage = lines_before_tree (OfNoPanel pool lines)

-- a refusal for a stage's tree names the tree's first fault, by the number of the line in the text
pub record NamesLineOfStage (pool : Pool) (answer : Answer) (trees : List (List TreeLine)) (refusal : Refusal) : Type 0 where
  -- the stages before the refused stage, the latest first
  pub earlier : List Stage
  -- the refused stage
  pub stage : Stage
  -- the stages after the refused stage
  pub later : List Stage
  pub stages : answer.stages ≡ reverse earlier ++ (stage ∷ later)
  pub number : refusal.stage ≡ length earlier + 1
  -- the number of the faulty line in the text
  pub line : ℕ
  pub who : refusal.who ≡ line ∷ []
  pub first_fault : tree_fault (stage_problem pool earlier stage) (standings pool)
      (lines_before (OfLottery pool answer trees) refusal.stage + 1) (tree_of (OfLottery pool answer trees) refusal.stage) ≡ fault line refusal.reason

-- a refusal of a proof that there is no quota panel has stage 0, and names the tree's first fault by the number of the line in the text
pub record NamesLineOfNone (pool : Pool) (lines : List TreeLine) (refusal : Refusal) : Type 0 where
  pub number : refusal.stage ≡ 0
  pub line : ℕ
  pub who : refusal.who ≡ line ∷ []
  pub first_fault : tree_fault (no_panel_problem pool) (standings pool) (lines_before (OfNoPanel pool lines) 0 + 1) lines ≡ fault line refusal.reason

abbrev pub NamesLine : Proof → Refusal → Type 0
NamesLine (OfLottery pool answer trees) refusal = NamesLineOfStage pool answer trees refusal
NamesLine (OfNoPanel pool lines) refusal = NamesLineOfNone pool lines refusal

-- the proof has a tree for each stage
abbrev pub HasTrees : Proof → Type 0
HasTrees (OfLottery pool answer trees) = length trees ≡ length answer.stages
HasTrees (OfNoPanel pool lines) = Unit {0}
