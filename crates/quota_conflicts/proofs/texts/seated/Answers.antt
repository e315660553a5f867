use Rattle.std.proofs.Common.{◌+◌, ℕ, ◌&&◌, sym, ap, ◌∙◌, arith}
use Rattle.define_pools.specs.Pool.{volunteer}
use Rattle.define_quotas.specs.ConflictText.{is_seated}
use Rattle.define_quotas.specs.Quotas.{is_counted}
use Rattle.quota_conflicts.proofs.Counts.{counted_no, counted_yes}
use Rattle.quota_conflicts.proofs.texts.seated.Goals as goal
use Rattle.quota_conflicts.proofs.texts.seated.Goals.{then-is_counted_seated, else-is_counted_seated}

pub loop-i-preserved : goal.loop-i-preserved
loop-i-preserved c =
    let passes = λ (i : ℕ). is_counted c.args.pool.now c.args.counted i && is_seated (volunteer c.args.pool.now.volunteers i).standing in
    elim c.if-is_counted_seated.branch [
      | then-is_counted_seated w ↦ record {
        number = w.number-is ∙ (ap (λ n. n + 1) c.loop-i.invariant.number ∙ sym (counted_yes passes c.loop-i.i (sym c.is_counted_seated.ensures ∙ w.if-is_counted_seated.true)));
        few = let is = w.number-is in let few = c.loop-i.invariant.few in omega arith;
      }
      | else-is_counted_seated w ↦ record {
        number = w.number-is ∙ (c.loop-i.invariant.number ∙ sym (counted_no passes c.loop-i.i (sym c.is_counted_seated.ensures ∙ w.if-is_counted_seated.false)));
        few = let is = w.number-is in let few = c.loop-i.invariant.few in omega arith;
      }
    ]
