use Rattle.std.proofs.Common.{◌≡◌, ℕ, ◌<◌, List, [], ◌∷◌, ◌++◌, cond, length, get_or, Vec, Global, ap, ◌∙◌, arith}
use Rattle.define_pools.specs.Pool.{Volunteer}
use Rattle.office_steps.proofs.Numbers.{numbers-more, with_it, without_it}
use Rattle.office_steps.proofs.pools.drawn.numbers_of.Goals as goal
use Rattle.office_steps.proofs.pools.drawn.numbers_of.Goals.{then-includes+in_ok-push, else-includes}

pub loop-number-preserved : goal.loop-number-preserved
loop-number-preserved c =
    let volunteers = c.args.pool.now.volunteers in
    let number = c.loop-number.number in
    let v = c.volunteer-item.result in
    let items : length c.volunteers-volunteer-items.result.now ≡ length volunteers = ap length c.volunteers-volunteer-items.ensures in
    let below : number < length volunteers = omega arith in
    let read : v ≡ get_or volunteers number v = c.volunteer-item.is ∙ ap (λ (all : List Volunteer). get_or all number v) c.volunteers-volunteer-items.ensures in
    let before = c.loop-number.numbers.items in
    let after = c.if-includes.numbers.items in
    let more : after ≡ before ++ cond c.includes.result (number ∷ []) [] =
    elim c.if-includes.branch [
      | then-includes+in_ok-push w ↦ with_it c.includes.result number before after w.if-includes.true (ap (λ (all : Vec ℕ Global). all.items) w.numbers-is ∙ w.in_ok-push.ensures.items)
      | else-includes w ↦ without_it c.includes.result number before after w.if-includes.false (ap (λ (all : Vec ℕ Global). all.items) w.numbers-is)
    ] in
    numbers-more volunteers c.args.ids.now number v c.id.result.now c.includes.result before after below read c.id.ensures c.includes.ensures c.loop-number.invariant more
