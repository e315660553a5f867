use Rattle.std.proofs.Common.{ℕ, ◌+◌, get_or, sym, ap, ap₂, ◌∙◌}
use Rattle.define_pools.specs.declared.Standing.{Standing}
use Rattle.define_pools.specs.declared.Standing.TheVariants.{Open}
use Rattle.define_quotas.specs.declared.Side.TheVariants.{AtMost}
use Rattle.define_quotas.specs.LeastMisses.{taken_by_standing, weights_for}
use Rattle.quota_conflicts.proofs.Sums.{all_read, one_more, sum_returned}
use Rattle.quota_conflicts.proofs.misses.asked.Goals as goal

pub loop-i-preserved : goal.loop-i-preserved
loop-i-preserved c =
    let taken = λ (p : ℕ × Standing). taken_by_standing p.1 (weights_for c.args.pool.now AtMost c.args.weighted.now p.0) in
    c.in_ok-taken.ensures.1
    ∙ ap₂ (λ m n. m + n) c.loop-i.invariant (c.taken_by_standing.ensures ∙ ap (taken_by_standing (get_or c.args.standings.now c.loop-i.i Open)) c.in_ok-most.ensures)
    ∙ sym (one_more taken c.args.standings.now c.loop-i.i Open c.loop-i-test.true)

pub returns : goal.returns
returns c =
    let taken = λ (p : ℕ × Standing). taken_by_standing p.1 (weights_for c.args.pool.now AtMost c.args.weighted.now p.0) in
    sum_returned c.checked_add-2.result _ _ _ c.checked_add-2.ensures
    (ap₂ (λ m n. m + n) c.in_ok-weighed_bounds.ensures (c.loop-i.invariant ∙ all_read taken c.args.standings.now c.loop-i.i c.loop-i-test.false))
