-- The order in which a proof is checked, stage by stage, as laws. Builds on ProofVerdict. `check_proofs` checks in this order.
use Rattle.std.specs.Prelude.{◌≡◌, ℕ, ◌+◌, List, [], ◌∷◌, length}
use Rattle.define_checks.specs.Reasons.{Refused, Valid, Verdict, first_reason, lottery_reasons, reasons_before_cap}
use Rattle.define_pools.specs.Certificate.{Answer, Stage}
use Rattle.define_pools.specs.Lottery.{Lottery}
use Rattle.define_pools.specs.Pool.{Pool}
use Rattle.define_proofs.specs.ProofVerdict.{OfLottery, first_tree, later_trees, lines_before_tree, listed_reasons, reasons_from, tree_reasons, verdict}
use Rattle.define_proofs.specs.TreeLines.{TreeLine}

-- the verdict on the stages `later` after the stages `earlier`; `line` is the number of the first tree's first line
abbrev pub verdict_from : Pool → Lottery → List Stage → List Stage → ℕ → List (List TreeLine) → Verdict
verdict_from pool lottery earlier later line trees = first_reason (reasons_from pool lottery earlier later line trees)

-- the first verdict if it is a refusal, else `next`
abbrev pub or_next : Verdict → Verdict → Verdict
or_next Valid next = next
or_next (Refused refusal) next = Refused refusal

-- the verdict on a lottery's proof is the first reason of the lottery that holds; if none does, the verdict on the stages
abbrev pub BeginsWithLottery : Type 0
BeginsWithLottery = (pool : Pool) (answer : Answer) (trees : List (List TreeLine)) →
    verdict (OfLottery pool answer trees) ≡
    or_next (first_reason (lottery_reasons pool answer.lottery))
    (verdict_from pool answer.lottery [] answer.stages (lines_before_tree (OfLottery pool answer trees) + 1) trees)

-- the verdict from `stage` on is the first refusal among four verdicts, or valid if none of them is a refusal: on the reasons before the
-- cap, on the stage's tree, on the listed panels, and on the later stages
abbrev pub GoesOnByStages : Type 0
GoesOnByStages = (pool : Pool) (lottery : Lottery) (earlier later : List Stage) (stage : Stage) (line : ℕ) (trees : List (List TreeLine)) →
    verdict_from pool lottery earlier (stage ∷ later) line trees ≡
    or_next (first_reason (reasons_before_cap pool lottery earlier stage))
    (or_next (first_reason (tree_reasons pool earlier stage line (first_tree trees)))
    (or_next (first_reason (listed_reasons lottery earlier stage))
    (verdict_from pool lottery (stage ∷ earlier) later (line + length (first_tree trees) + 1) (later_trees trees))))
