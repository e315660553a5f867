-- A check of a cover goes on from stage to stage.
use Rattle.std.proofs.Common.{◌≡◌, ◌+◌, List, [], ◌∷◌, ◌++◌, length, Option, Some, None, refl, ap, ◌∙◌}
use Rattle.define_checks.specs.Reasons.{Refusal, Refused, Valid, Verdict, first_reason, lottery_reasons, reasons_before_cap}
use Rattle.define_proofs.specs.ProofSteps.{or_next}
use Rattle.define_proofs.specs.ProofVerdict.{listed_reasons}
use Rattle.define_covers.specs.CoverVerdict.{first_tree, later_trees, lines_before_tree, reasons_from, tree_reasons}
use Rattle.define_covers.specs.CoverSteps.{BeginsWithLottery, GoesOnByStages}

first_joined : (xs ys : List (Option Refusal)) → first_reason (xs ++ ys) ≡ or_next (first_reason xs) (first_reason ys)
first_joined [] ys = refl
first_joined (None ∷ xs) ys = first_joined xs ys
first_joined (Some refusal ∷ xs) ys = refl

next_assoc : (first second third : Verdict) → or_next (or_next first second) third ≡ or_next first (or_next second third)
next_assoc Valid second third = refl
next_assoc (Refused refusal) second third = refl

pub begins_with_lottery : BeginsWithLottery
begins_with_lottery cover =
    first_joined (lottery_reasons cover.bundle.pool cover.bundle.answer.lottery)
    (reasons_from cover.bundle.pool cover.bundle.answer.lottery [] cover.bundle.answer.stages (lines_before_tree cover.bundle + 1) cover.trees)

pub goes_on_by_stages : GoesOnByStages
goes_on_by_stages pool lottery earlier later stage line trees =
    let lines = first_tree trees in
    let before = reasons_before_cap pool lottery earlier stage in
    let of_tree = tree_reasons pool earlier stage line lines in
    let of_listed = listed_reasons lottery earlier stage in
    let rest = reasons_from pool lottery (stage ∷ earlier) later (line + length lines + 1) (later_trees trees) in
    first_joined ((before ++ of_tree) ++ of_listed) rest
    ∙ ap (λ first. or_next first (first_reason rest))
    (first_joined (before ++ of_tree) of_listed ∙ ap (λ first. or_next first (first_reason of_listed)) (first_joined before of_tree)
    ∙ next_assoc (first_reason before) (first_reason of_tree) (first_reason of_listed))
