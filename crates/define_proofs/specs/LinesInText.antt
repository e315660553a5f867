-- Where the lines of a proof's trees are in its text. Builds on ProofText and Refusals. The refusals of `verify`
-- name lines by their number in the text.
use Rattle.std.specs.Prelude.{◌≡◌, ℕ, ◌+◌, ◌≤◌, List, [], ◌∷◌, ◌++◌, drop, length, map}
use Rattle.define_checks.specs.Reasons.{Refusal}
use Rattle.define_proofs.specs.ProofVerdict.{OfLottery, OfNoPanel, Proof}
use Rattle.define_proofs.specs.Refusals.{lines_before, tree_of}
use Rattle.define_proofs.specs.ProofText.{close_line, lines_before_close, node_line, trees_from}

-- all lines of the text
abbrev pub proof_lines : Proof → List (List ℕ)
proof_lines proof = lines_before_close proof ++ close_line ∷ []

-- the proof has a tree with the number `stage`: the tree of this stage in a proof of a lottery, or tree 0 in a proof that there is no quota
-- panel
abbrev pub HasTree : Proof → ℕ → Type 0
HasTree (OfLottery pool answer trees) stage = (1 ≤ stage) × (stage ≤ length trees)
HasTree (OfNoPanel pool lines) stage = stage ≡ 0

-- the lines after those of tree `stage`: the later trees, and the last line
abbrev pub lines_behind : Proof → ℕ → List (List ℕ)
lines_behind (OfLottery pool answer trees) stage = trees_from (stage + 1) (drop stage trees) ++ close_line ∷ []
lines_behind (OfNoPanel pool lines) stage = close_line ∷ []

-- the refusal names the line of the text, counted from 1, at `place` in its stage's tree. If the tree has only `place` lines, this is the
-- line after them
pub record NamesTextLine (proof : Proof) (refusal : Refusal) : Type 0 where
  -- how many of the tree's lines come before the named line
  pub place : ℕ
  pub within : place ≤ length (tree_of proof refusal.stage)
  pub who : refusal.who ≡ (lines_before proof refusal.stage + place + 1) ∷ []
  pub text : drop (lines_before proof refusal.stage + place) (proof_lines proof) ≡ map node_line (drop place (tree_of proof refusal.stage)) ++ lines_behind proof refusal.stage
