use Rattle.std.proofs.Common.{◌≡◌, ◌∙◌, ◌<◌, ◌≤◌, length, sym, arith}
use Rattle.quota_conflicts.proofs.Different.{different_on}
use Rattle.quota_conflicts.proofs.checks.are_different.Goals as goal

pub loop-place-init : goal.loop-place-init
loop-place-init c = λ i j d before below same. absurd (omega (arith, below))

pub loop-place-preserved : goal.loop-place-preserved
loop-place-preserved c =
    different_on c.args.quotas.now c.loop-place.place _ c.loop-place-test.true c.loop-place.invariant (sym c.contains.ensures.value ∙ c.if-contains.false)

pub returns : goal.returns
returns c = λ i j d before below same. c.loop-place.invariant i j d before (let all = c.loop-place-test.false in omega (arith, below, all)) same
