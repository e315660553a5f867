-- The verdict on a cover: the reasons of a check, with 11 and 12, the reasons of a tree's lines, in the place of 8, which needs a search.
-- Builds on FrontOrder and Causes, on Caps and Reasons of `define_checks`, and on TreeLines and ProofVerdict of `define_proofs`. An
-- auditor of covers reads this file.
use Rattle.std.specs.Prelude.{ℕ, ◌+◌, if◌then◌else◌, List, [], ◌∷◌, ◌++◌, drop, length, map, slice_index_or, Option, Some, None}
use Rattle.define_bundles.specs.BundleText.{Bundle, lines_before_done}
use Rattle.define_checks.specs.Caps.{classes_at, stage_row}
use Rattle.define_checks.specs.Reasons as check
use Rattle.define_checks.specs.Reasons.{Refusal, Verdict, first_reason, lottery_reasons, reasons_before_cap}
use Rattle.define_pools.specs.Certificate.{Stage}
use Rattle.define_pools.specs.Lottery.{Lottery}
use Rattle.define_pools.specs.Pool.{Pool}
use Rattle.define_rows.specs.Row.{Row}
use Rattle.define_searches.specs.Classes.{Classes}
use Rattle.define_proofs.specs.ProofVerdict.{line_reason, listed_reasons}
use Rattle.define_proofs.specs.TreeLines.{TreeFault, fault}
use Rattle.define_covers.specs.Causes.{applies}
use Rattle.define_covers.specs.Covers.{Cover, FrontLine}
use Rattle.define_covers.specs.FrontOrder.{continues, turned}

-- the first fault of the lines of a tree, from the front on that begins with `beginning`, or None if they complete the tree. The first of
-- them is line `number`. 11: the line isn't the front that comes next, the lines end before the tree is complete, or a line follows its
-- end. 12: the line's cause doesn't apply
abbrev pub fault_from : Classes → List Row → Row → ℕ → Option (List ℕ) → List FrontLine → Option TreeFault
fault_from all closed row number None [] = None
fault_from all closed row number None (line ∷ later) = fault number 11
fault_from all closed row number (Some beginning) [] = fault number 11
fault_from all closed row number (Some beginning) (line ∷ later) =
    (if continues all.classes beginning line.front
    then (if applies all closed row line.front line.cause then fault_from all closed row (number + 1) (turned all.classes line.front) later else fault number 12)
    else fault number 11)

-- the first fault of the lines of the tree of `stage` after the stages `earlier`, given the number of its first line. Its classes are those
-- of a check's search at the stage, the closed rows are those of the earlier stages
abbrev pub tree_fault : Pool → List Stage → Stage → ℕ → List FrontLine → Option TreeFault
tree_fault pool earlier stage number lines =
    fault_from (classes_at pool (stage ∷ earlier)) (map (stage_row pool (stage ∷ earlier)) earlier) (stage_row pool (stage ∷ earlier) stage) number (Some []) lines

-- the reason of a stage's tree: 11 or 12, shown by the number of a line
abbrev pub tree_reasons : Pool → List Stage → Stage → ℕ → List FrontLine → List (Option Refusal)
tree_reasons pool earlier stage line lines = line_reason (length earlier + 1) (tree_fault pool earlier stage line lines) ∷ []

-- all reasons of a stage after the stages `earlier`: those before its cap, that of its tree, and that of the listed panels
abbrev pub stage_reasons : Pool → Lottery → List Stage → Stage → ℕ → List FrontLine → List (Option Refusal)
stage_reasons pool lottery earlier stage line lines =
    reasons_before_cap pool lottery earlier stage ++ tree_reasons pool earlier stage line lines ++ listed_reasons lottery earlier stage

-- the lines of the first tree; no lines if there is no tree
abbrev pub first_tree : List (List FrontLine) → List FrontLine
first_tree trees = slice_index_or trees 0 []

abbrev pub later_trees : List (List FrontLine) → List (List FrontLine)
later_trees trees = drop 1 trees

-- all reasons of the stages `later` after the stages `earlier`, then the one reason after the last stage. `line` is the number of the first
-- tree's first line. Between two trees there is one line
abbrev pub reasons_from : Pool → Lottery → List Stage → List Stage → ℕ → List (List FrontLine) → List (Option Refusal)
reasons_from pool lottery earlier [] line trees = check.reasons_from pool lottery earlier []
reasons_from pool lottery earlier (stage ∷ later) line trees =
    stage_reasons pool lottery earlier stage line (first_tree trees)
    ++ reasons_from pool lottery (stage ∷ earlier) later (line + length (first_tree trees) + 1) (later_trees trees)

-- the number of lines of a cover's text before the first line of its first tree: the cover's first line, the lines of the bundle with
-- `done` as the last, and the line that begins the tree
abbrev pub lines_before_tree : Bundle → ℕ
lines_before_tree bundle = 1 + (length (lines_before_done bundle.pool bundle.answer) + 1) + 1

-- all reasons for which a cover may be refused, in the order in which they are tried
abbrev pub reasons : Cover → List (Option Refusal)
reasons cover =
    let bundle = cover.bundle in
    lottery_reasons bundle.pool bundle.answer.lottery
    ++ reasons_from bundle.pool bundle.answer.lottery [] bundle.answer.stages (lines_before_tree bundle + 1) cover.trees

-- the verdict on a cover: refused for the first reason that holds, and valid if none does
abbrev pub verdict : Cover → Verdict
verdict cover = first_reason (reasons cover)
