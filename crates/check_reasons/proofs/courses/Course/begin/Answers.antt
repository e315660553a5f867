use Rattle.std.proofs.Common.{◌≡◌, List, length, ap, ◌∙◌, arith}
use Rattle.define_pools.specs.Pool.{Volunteer}
use Rattle.check_reasons.proofs.Kept.{none_settled}
use Rattle.check_reasons.proofs.courses.Course.begin.Goals as goal

pub invariant_of-result : goal.invariant_of-result
invariant_of-result c =
    let pool = c.args.pool.now in
    let people : length c.volunteers.result.now ≡ length pool.volunteers = ap (λ (vs : List Volunteer). length vs) c.volunteers.ensures in (
      omega arith,
      none_settled pool c.lottery-lottery.result.now c.stages.result.now c.in_ok-chances.field-0.items c.in_ok-none_marked.field-0.items c.in_ok-chances.ensures (c.in_ok-none_marked.ensures.size ∙ people)
          (λ i below. c.in_ok-none_marked.ensures.none i (omega arith)),
    )
