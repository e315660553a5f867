use Rattle.std.proofs.Common.{◌≡◌, ◌<◌, Bool, false, ◌||◌, List, length, get_or, sym, ap, ◌∙◌, arith}
use Rattle.std.proofs.lemmas.List.{length-drop, with_items_is}
use Rattle.define_pools.specs.Certificate.{is_positive}
use Rattle.check_reasons.specs.Courses.{Course}
use Rattle.check_reasons.proofs.Kept.{marks_more}
use Rattle.check_reasons.proofs.courses.Course.settle.Goals as goal

pub invariant_of-self : goal.invariant_of-self
invariant_of-self c =
    let inside = c.self.inside in
    let later = ap (λ (course : Course). length course.later) c.self.view_is in
    let next : inside.passed < length inside.stages.now = omega (arith, length-drop inside.passed inside.stages.now, later, c.requires) in
    let kept : length c.mark_settled.new.settled ≡ length c.deref_mut.result.now = c.mark_settled.auto.settled in
    let whole = with_items_is inside.settled c.mark_settled.new.settled (kept ∙ c.deref_mut.ensures.len) in
    let same : length c.mark_settled.new.settled ≡ length inside.settled.items = kept ∙ ap (λ (xs : List Bool). length xs) c.deref_mut.ensures.value in
    rw whole (
      omega arith,
      marks_more inside.pool.now inside.lottery.now inside.stages.now inside.passed c.index-self-self.result inside.counts.items inside.settled.items c.mark_settled.new.settled next c.index-self-self.is c.self.invariant.1 same
          (λ i below. c.mark_settled.ensures i (omega (arith, ap (λ (xs : List Bool). length xs) c.deref_mut.ensures.value)) ∙ ap (λ stage. is_positive stage i || get_or c.deref_mut.result.now i false) (sym c.index-self-self.is)
          ∙ ap (λ (xs : List Bool). is_positive c.index-self-self.result i || get_or xs i false) c.deref_mut.ensures.value),
    )
