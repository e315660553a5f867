-- The order in which a cover is checked, stage by stage, as laws. Builds on CoverVerdict of `define_covers`, and on ProofSteps of
-- `define_proofs`. `cover_cert` checks in this order.
use Rattle.std.specs.Prelude.{◌≡◌, ℕ, ◌+◌, List, [], ◌∷◌, length}
use Rattle.define_checks.specs.Reasons.{Verdict, first_reason, lottery_reasons, reasons_before_cap}
use Rattle.define_pools.specs.Certificate.{Stage}
use Rattle.define_pools.specs.Lottery.{Lottery}
use Rattle.define_pools.specs.Pool.{Pool}
use Rattle.define_proofs.specs.ProofSteps.{or_next}
use Rattle.define_proofs.specs.ProofVerdict.{listed_reasons}
use Rattle.define_covers.specs.Covers.{Cover, FrontLine}
use Rattle.define_covers.specs.CoverVerdict.{first_tree, later_trees, lines_before_tree, reasons_from, tree_reasons, verdict}

-- the verdict on the stages `later` after the stages `earlier`; `line` is the number of the first tree's first line
abbrev pub verdict_from : Pool → Lottery → List Stage → List Stage → ℕ → List (List FrontLine) → Verdict
verdict_from pool lottery earlier later line trees = first_reason (reasons_from pool lottery earlier later line trees)

-- the verdict on a stage: the first refusal among those for the reasons before the cap, for the stage's tree, and for the listed panels
abbrev pub stage_verdict : Pool → Lottery → List Stage → Stage → ℕ → List FrontLine → Verdict
stage_verdict pool lottery earlier stage line lines =
    or_next (first_reason (reasons_before_cap pool lottery earlier stage))
    (or_next (first_reason (tree_reasons pool earlier stage line lines)) (first_reason (listed_reasons lottery earlier stage)))

-- the verdict on a cover is the first reason of the lottery that holds; if none does, the verdict on the stages
abbrev pub BeginsWithLottery : Type 0
BeginsWithLottery = (cover : Cover) →
    verdict cover ≡
    or_next (first_reason (lottery_reasons cover.bundle.pool cover.bundle.answer.lottery))
    (verdict_from cover.bundle.pool cover.bundle.answer.lottery [] cover.bundle.answer.stages (lines_before_tree cover.bundle + 1) cover.trees)

-- the verdict from `stage` on is that on the stage if it is a refusal, else that on the later stages
abbrev pub GoesOnByStages : Type 0
GoesOnByStages = (pool : Pool) (lottery : Lottery) (earlier later : List Stage) (stage : Stage) (line : ℕ) (trees : List (List FrontLine)) →
    verdict_from pool lottery earlier (stage ∷ later) line trees ≡
    or_next (stage_verdict pool lottery earlier stage line (first_tree trees))
    (verdict_from pool lottery (stage ∷ earlier) later (line + length (first_tree trees) + 1) (later_trees trees))
