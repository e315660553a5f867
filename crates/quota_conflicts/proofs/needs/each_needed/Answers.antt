use Rattle.std.proofs.Common.{below_more, subst}
use Rattle.std.specs.Bool.{OnTrue}
use Rattle.define_quotas.specs.Quotas.{IsNeeded}
use Rattle.quota_conflicts.proofs.needs.each_needed.Goals as goal

pub loop-place-preserved : goal.loop-place-preserved
loop-place-preserved c =
    let pool = c.args.pool.now in
    let quotas = c.args.quotas.now in
    below_more (IsNeeded pool quotas) c.loop-place.place c.loop-place.invariant
    (subst (λ is. OnTrue is (IsNeeded pool quotas c.loop-place.place)) c.if-not-branch.false c.in_ok-is_needed.ensures)
