use Rattle.std.proofs.Common.{◌≡◌, ℕ, List, Bool, not, false, length, get_or, Option, Some, None, sym, ap, ◌∙◌, subst}
use Rattle.std.specs.List.{find, range_with_len}
use Rattle.std.specs.Result.{IfOk}
use Rattle.define_checks.specs.Reasons.{Verdict}
use Rattle.check_reasons.specs.Courses.{Course, Keeps}
use Rattle.check_reasons.proofs.Kept.{left_with, many_passed}
use Rattle.check_reasons.proofs.courses.Course.left.Goals as goal

-- If `kept` equals `marks`, the first volunteer whom `kept` doesn't mark, if there is one, is the first whom `marks` doesn't mark.
same_marks : (found : Option ℕ) (kept marks : List Bool) → kept ≡ marks → found ≡ find (λ i. not (get_or kept i false)) (range_with_len 0 (length kept)) → found ≡ find (λ i. not (get_or marks i false)) (range_with_len 0 (length marks))
same_marks found kept marks e f = f ∙ ap (λ (xs : List Bool). find (λ i. not (get_or xs i false)) (range_with_len 0 (length xs))) e

pub returns-in-Some : goal.returns-in-Some
returns-in-Some c =
    let inside = c.self.inside in
    let K : Course → Type 0 = λ course. Keeps course inside.counts.items inside.settled.items in
    let keeps = subst K c.self.view_is c.self.invariant.1 in
    let number : inside.passed ≡ length c.args.self.now.earlier = sym (many_passed inside.stages.now inside.passed c.self.invariant.0) ∙ ap (λ (course : Course). length course.earlier) c.self.view_is in
    let P : Verdict → Type 0 = λ said. IfOk c.refused.result (λ verdict. verdict ≡ said) in
    subst P (left_with c.args.self.now inside.counts.items inside.settled.items keeps (Some c.in-Some.i) inside.passed (same_marks (Some c.in-Some.i) c.deref.result.now inside.settled.items c.deref.ensures.value c.in-Some.ensures) number) c.refused.ensures

pub returns-in-None : goal.returns-in-None
returns-in-None c =
    let inside = c.self.inside in
    let K : Course → Type 0 = λ course. Keeps course inside.counts.items inside.settled.items in
    let keeps = subst K c.self.view_is c.self.invariant.1 in
    let number : inside.passed ≡ length c.args.self.now.earlier = sym (many_passed inside.stages.now inside.passed c.self.invariant.0) ∙ ap (λ (course : Course). length course.earlier) c.self.view_is in
    c.valid.ensures ∙ left_with c.args.self.now inside.counts.items inside.settled.items keeps None inside.passed (same_marks None c.deref.result.now inside.settled.items c.deref.ensures.value c.in-None.ensures) number
