-- Proofs that a lottery is leximin greatest, or that a pool has no quota panel, and the verdict on them: whole numbers are multiplied,
-- added and compared, and nothing is searched. Builds on TreeLines and TreeRanges, on Reasons of `define_checks`, and on BundleText and
-- Ranges of `define_bundles`. An auditor of `verify` reads this file.
use Rattle.std.specs.Prelude.{ℕ, ◌+◌, nat_le, not, List, [], ◌∷◌, ◌++◌, drop, length, slice_index_or, Option, Some, None, IsTrue}
use Rattle.std.specs.List.{find}
use Rattle.std.specs.Ordering.{int_eq}
use Rattle.define_bundles.specs.BundleText.{lines_before_done, pool_lines}
use Rattle.define_bundles.specs.Ranges.{reach}
use Rattle.define_checks.specs.Reasons.{Refusal, Verdict, first_reason, listed, lottery_reasons, nobody_unless, one, reason, reasons_before_cap}
use Rattle.define_pools.specs.Certificate.{Answer, Stage, is_settled, panel_weight}
use Rattle.define_pools.specs.Lottery.{Lottery}
use Rattle.define_pools.specs.Pool.{Pool, everybody}
use Rattle.define_proofs.specs.Leaves.{no_panel_problem, stage_problem, standings}
use Rattle.define_proofs.specs.TreeLines.{AreOfTree, TreeFault, TreeLine, tree_fault}
use Rattle.define_proofs.specs.TreeRanges.{number_limit}

-- a lottery with its stages, and for each stage the lines of a tree; or the lines of a tree that shows that there is no quota panel
pub data Proof : Type 0 where
  OfLottery : (pool : Pool) → (answer : Answer) → (trees : List (List TreeLine)) → Proof
  OfNoPanel : (pool : Pool) → (lines : List TreeLine) → Proof

-- the lines of the first tree; no lines if there is no tree
abbrev pub first_tree : List (List TreeLine) → List TreeLine
first_tree trees = slice_index_or trees 0 []

abbrev pub later_trees : List (List TreeLine) → List (List TreeLine)
later_trees trees = drop 1 trees

-- the number of lines of a proof's text before the first line of its first tree. For a lottery: the proof's first line, the lines of the
-- bundle with `done` as the last, and the line that begins the tree. For a pool without a panel: the proof's first line, the lines of the
-- pool, the line that says that there is no panel, and the line that begins the tree
abbrev pub lines_before_tree : Proof → ℕ
lines_before_tree (OfLottery pool answer trees) = 1 + (length (lines_before_done pool answer) + 1) + 1
lines_before_tree (OfNoPanel pool lines) = 1 + length (pool_lines pool) + 1 + 1

-- the refusal for a tree's fault, which names the fault's line; none if there is no fault
abbrev pub line_reason : ℕ → Option TreeFault → Option Refusal
line_reason stage None = None
line_reason stage (Some fault) = reason stage fault.reason (Some (fault.line ∷ []))

-- the reasons of a stage's tree, after the stages `earlier`; `line` is the number of the tree's first line
abbrev pub tree_reasons : Pool → List Stage → Stage → ℕ → List TreeLine → List (Option Refusal)
tree_reasons pool earlier stage line lines =
    let number = length earlier + 1 in
    -- 13: the absolute values of the stage's cap and weights sum to more than 2^56
    reason number 13 (nobody_unless (nat_le (reach stage) number_limit)) ∷
    -- 11: a line can't come next in a tree, the lines end before the tree is complete, or a line follows its end; 12: a leaf's multipliers
    -- don't show the cap
    line_reason number (tree_fault (stage_problem pool earlier stage) (standings pool) line lines) ∷ []

-- the reasons of the lottery's listed panels at a stage
abbrev pub listed_reasons : Lottery → List Stage → Stage → List (Option Refusal)
listed_reasons lottery earlier stage =
    -- 9: a listed panel's weight isn't the cap
    reason (length earlier + 1) 9 (find (λ panel. not (int_eq (panel_weight stage panel) stage.cap)) (listed lottery)) ∷ []

-- all reasons of a stage after the stages `earlier`
abbrev pub stage_reasons : Pool → Lottery → List Stage → Stage → ℕ → List TreeLine → List (Option Refusal)
stage_reasons pool lottery earlier stage line lines =
    reasons_before_cap pool lottery earlier stage ++ tree_reasons pool earlier stage line lines ++ listed_reasons lottery earlier stage

-- the reasons of the stages `later` after the stages `earlier`, then the one reason after the last stage. `line` is the number of the first
-- tree's first line. Between two trees there is one line
abbrev pub reasons_from : Pool → Lottery → List Stage → List Stage → ℕ → List (List TreeLine) → List (Option Refusal)
reasons_from pool lottery earlier [] line trees =
    -- 10: somebody is unsettled after the last stage
    reason (length earlier) 10 (one (find (λ i. not (is_settled earlier i)) (everybody pool))) ∷ []
reasons_from pool lottery earlier (stage ∷ later) line trees =
    stage_reasons pool lottery earlier stage line (first_tree trees)
    ++ reasons_from pool lottery (stage ∷ earlier) later (line + length (first_tree trees) + 1) (later_trees trees)

-- all reasons for which a proof may be refused, in the order in which they are tried
abbrev pub reasons : Proof → List (Option Refusal)
reasons (OfLottery pool answer trees) =
    lottery_reasons pool answer.lottery
    ++ reasons_from pool answer.lottery [] answer.stages (lines_before_tree (OfLottery pool answer trees) + 1) trees
reasons (OfNoPanel pool lines) = line_reason 0 (tree_fault (no_panel_problem pool) (standings pool) (lines_before_tree (OfNoPanel pool lines) + 1) lines) ∷ []

-- the verdict on a proof: refused for the first reason that holds, and valid if none does
abbrev pub verdict : Proof → Verdict
verdict proof = first_reason (reasons proof)

-- each stage of the second list, after `earlier`, is within reach, and the lines at its place in `trees` are those of a tree that shows
-- its cap
abbrev pub TreesShow : Pool → List Stage → List Stage → List (List TreeLine) → Type 0
TreesShow pool earlier [] trees = Unit {0}
TreesShow pool earlier (stage ∷ later) trees =
    IsTrue (nat_le (reach stage) number_limit)
    × AreOfTree (stage_problem pool earlier stage) (standings pool) (first_tree trees)
    × TreesShow pool (stage ∷ earlier) later (later_trees trees)
