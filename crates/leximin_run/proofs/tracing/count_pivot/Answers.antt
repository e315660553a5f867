use Rattle.std.proofs.Common.{◌≡◌, ◌<◌, ◌-◌, suc, length, sym, arith}
use Rattle.leximin_run.proofs.LegSteps.{last_longer}
use Rattle.leximin_run.proofs.tracing.count_pivot.Goals as goal

pub returns-in-Some : goal.returns-in-Some
returns-in-Some c =
    let legs = c.args.legs.now in
    let item = c.in-Some.ensures.item in
    let some : 0 < length legs = item.3.0 in
    let last : suc (length legs - 1) ≡ length legs = omega (arith, some) in
    last_longer legs (length legs - 1) c.in-Some.leg.now last (sym item.1)
