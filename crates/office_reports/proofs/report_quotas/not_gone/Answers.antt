use Rattle.std.proofs.Common.{◌≡◌, ℕ, ◌<◌, List, length, get_or, Vec, Global, ap, ◌∙◌, arith}
use Rattle.define_pools.specs.Pool.{Volunteer}
use Rattle.define_offices.proofs.VolunteerSteps.{gone_passed, here_added}
use Rattle.office_reports.proofs.report_quotas.not_gone.Goals as goal
use Rattle.office_reports.proofs.report_quotas.not_gone.Goals.{then-may_be_chosen+in_ok-push, else-may_be_chosen}

pub loop-number-preserved : goal.loop-number-preserved
loop-number-preserved c =
    let pool = c.args.pool.now in
    let number = c.loop-number.number in
    let v = c.volunteer-item.result in
    let items : length c.volunteers-volunteer-items.result.now ≡ length pool.volunteers = ap length c.volunteers-volunteer-items.ensures in
    let below : number < length pool.volunteers = omega arith in
    let read : v ≡ get_or pool.volunteers number v = c.volunteer-item.is ∙ ap (λ (all : List Volunteer). get_or all number v) c.volunteers-volunteer-items.ensures in
    let before = c.loop-number.numbers.items in
    let after = c.if-may_be_chosen.numbers.items in
    elim c.if-may_be_chosen.branch [
      | then-may_be_chosen+in_ok-push w ↦ here_added pool number v below read c.standing.result c.may_be_chosen.result before after c.standing.ensures c.may_be_chosen.ensures
          w.if-may_be_chosen.true c.loop-number.invariant (ap (λ (all : Vec ℕ Global). all.items) w.numbers-is ∙ w.in_ok-push.ensures.items)
      | else-may_be_chosen w ↦ gone_passed pool number v below read c.standing.result c.may_be_chosen.result before after c.standing.ensures c.may_be_chosen.ensures
          w.if-may_be_chosen.false c.loop-number.invariant (ap (λ (all : Vec ℕ Global). all.items) w.numbers-is)
    ]
