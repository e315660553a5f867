use Rattle.std.proofs.Common.{◌≡◌, ℕ, List, length, filter, not, get_or, false, Bool, ap, ◌∙◌, subst}
use Rattle.std.specs.List.{range_with_len}
use Rattle.std.specs.Result.{IfOk}
use Rattle.define_checks.specs.Reasons.{Verdict, first_reason}
use Rattle.check_reasons.specs.Courses.{Course, Keeps}
use Rattle.check_reasons.proofs.Kept.{before_cap_is}
use Rattle.check_reasons.proofs.courses.Course.before_cap.Goals as goal

-- If `kept` equals `marks`, the list of the volunteers whom `kept` doesn't mark is that of the volunteers whom `marks` doesn't mark.
same_marks : (numbers : List ℕ) (kept marks : List Bool) → kept ≡ marks → numbers ≡ filter (λ i. not (get_or kept i false)) (range_with_len 0 (length kept)) → numbers ≡ filter (λ i. not (get_or marks i false)) (range_with_len 0 (length marks))
same_marks numbers kept marks e f = f ∙ ap (λ (xs : List Bool). filter (λ i. not (get_or xs i false)) (range_with_len 0 (length xs))) e

pub returns : goal.returns
returns c =
    let inside = c.self.inside in
    let K : Course → Type 0 = λ course. Keeps course inside.counts.items inside.settled.items in
    let keeps = subst K c.self.view_is c.self.invariant.1 in
    let P : Verdict → Type 0 = λ said. IfOk c.kept_verdict.result (λ verdict. verdict ≡ said) in
    subst P
    (ap first_reason (before_cap_is c.args.self.now inside.counts.items inside.settled.items keeps c.args.stage.now c.deref-2.result.now c.deref-3.result.now c.number.result c.deref-2.ensures.value
    (c.deref-3.ensures.value ∙ same_marks c.in_ok-unsettled.unsettled.items c.deref.result.now inside.settled.items c.deref.ensures.value c.in_ok-unsettled.ensures) c.number.ensures))
    c.kept_verdict.ensures
