-- What a refusal of a cover says: of the certificate, and which line of the cover's text it names. Builds on CoverVerdict of `define_covers`
-- and on CoverText of `define_covers`.
use Rattle.std.specs.Prelude.{◌≡◌, ◌⊎◌, ℕ, ◌+◌, ◌-◌, ◌<◌, ◌≤◌, List, [], ◌∷◌, ◌++◌, drop, length, map, reverse, slice_index_or, take}
use Rattle.define_checks.specs.Reasons.{Refusal}
use Rattle.define_pools.specs.Certificate.{Certifies, Stage}
use Rattle.define_proofs.specs.TreeLines.{fault}
use Rattle.define_proofs.specs.ProofText.{close_line}
use Rattle.define_covers.specs.Covers.{Cover, FrontLine}
use Rattle.define_covers.specs.CoverVerdict.{lines_before_tree, tree_fault}
use Rattle.define_covers.specs.CoverText.{cover_lines, front_line, trees_from}

-- if the reason is below 11, the certificate doesn't hold. Reasons 11 and 12 are about the trees and say nothing of the certificate
abbrev pub RefusalMeans : Cover → Refusal → Type 0
RefusalMeans cover refusal = refusal.reason < 11 → ¬ Certifies cover.bundle.pool cover.bundle.answer.lottery cover.bundle.answer.stages

-- the refusal names a line
abbrev pub IsOfLine : Refusal → Type 0
IsOfLine refusal = (refusal.reason ≡ 11) ⊎ (refusal.reason ≡ 12)

-- ---- which line of the text is named

-- the number of lines of all trees of a list in a cover's text, with one more after each tree for the line that begins the next tree
abbrev pub lines_of_trees : List (List FrontLine) → ℕ
lines_of_trees [] = 0
lines_of_trees (lines ∷ later) = length lines + 1 + lines_of_trees later

-- the tree of a stage, by the stage's number
abbrev pub tree_of : Cover → ℕ → List FrontLine
tree_of cover stage = slice_index_or cover.trees (stage - 1) []

-- how many lines of the text come before the first line of the tree of `stage`
abbrev pub lines_before : Cover → ℕ → ℕ
lines_before cover stage = lines_before_tree cover.bundle + lines_of_trees (take (stage - 1) cover.trees)

-- the refusal names the first fault of a stage's tree, by the number of the line in the text
pub record NamesLine (cover : Cover) (refusal : Refusal) : Type 0 where
  -- the stages before the refused stage, the latest first
  pub earlier : List Stage
  -- the refused stage
  pub stage : Stage
  -- the stages after the refused stage
  pub later : List Stage
  pub stages : cover.bundle.answer.stages ≡ reverse earlier ++ (stage ∷ later)
  pub number : refusal.stage ≡ length earlier + 1
  -- the number of the faulty line in the text
  pub line : ℕ
  pub who : refusal.who ≡ line ∷ []
  pub first_fault : tree_fault cover.bundle.pool earlier stage (lines_before cover refusal.stage + 1) (tree_of cover refusal.stage) ≡ fault line refusal.reason

-- the lines after those of tree `stage`: the later trees, and the last line
abbrev pub lines_behind : Cover → ℕ → List (List ℕ)
lines_behind cover stage = trees_from (stage + 1) (drop stage cover.trees) ++ close_line ∷ []

-- the refusal names the line of the text, counted from 1, at `place` in its stage's tree. If the tree has only `place` lines, this is the
-- line after them
pub record NamesTextLine (cover : Cover) (refusal : Refusal) : Type 0 where
  -- how many of the tree's lines come before the named line
  pub place : ℕ
  pub within : place ≤ length (tree_of cover refusal.stage)
  pub who : refusal.who ≡ (lines_before cover refusal.stage + place + 1) ∷ []
  pub text : drop (lines_before cover refusal.stage + place) (cover_lines cover) ≡ map front_line (drop place (tree_of cover refusal.stage)) ++ lines_behind cover refusal.stage
