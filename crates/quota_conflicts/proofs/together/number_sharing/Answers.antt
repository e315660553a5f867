use Rattle.std.proofs.Common.{◌+◌, List, sym, ap, ◌∙◌, arith}
use Rattle.define_pools.specs.Pool.{Volunteer, share_household}
use Rattle.quota_conflicts.proofs.Counts.{counted_no, counted_yes}
use Rattle.quota_conflicts.proofs.together.number_sharing.Goals as goal
use Rattle.quota_conflicts.proofs.together.number_sharing.Goals.{then-share_household, else-share_household}

pub loop-other-preserved : goal.loop-other-preserved
loop-other-preserved c =
    let passes = share_household c.args.pool.now.volunteers c.args.member in
    let same = ap (λ (vs : List Volunteer). share_household vs c.args.member c.loop-other.other) (sym c.volunteers-volunteers.ensures) in
    elim c.if-share_household.branch [
      | then-share_household w ↦ record {
        number = w.number-is ∙ (ap (λ n. n + 1) c.loop-other.invariant.number ∙ sym (counted_yes passes c.loop-other.other (same ∙ sym c.share_household.ensures ∙ w.if-share_household.true)));
        few = let is = w.number-is in let few = c.loop-other.invariant.few in omega arith;
      }
      | else-share_household w ↦ record {
        number = w.number-is ∙ (c.loop-other.invariant.number ∙ sym (counted_no passes c.loop-other.other (same ∙ sym c.share_household.ensures ∙ w.if-share_household.false)));
        few = let is = w.number-is in let few = c.loop-other.invariant.few in omega arith;
      }
    ]
