use Rattle.std.proofs.Common.{◌+◌, ℕ, ◌&&◌, sym, ap, ◌∙◌, arith}
use Rattle.define_pools.specs.Pool.{volunteer}
use Rattle.define_quotas.specs.ConflictText.{is_available}
use Rattle.define_quotas.specs.Quotas.{is_counted}
use Rattle.quota_conflicts.proofs.Counts.{counted_no, counted_yes}
use Rattle.quota_conflicts.proofs.texts.available.Goals as goal
use Rattle.quota_conflicts.proofs.texts.available.Goals.{then-is_counted_available, else-is_counted_available}

pub loop-i-preserved : goal.loop-i-preserved
loop-i-preserved c =
    let passes = λ (i : ℕ). is_counted c.args.pool.now c.args.counted i && is_available (volunteer c.args.pool.now.volunteers i).standing in
    elim c.if-is_counted_available.branch [
      | then-is_counted_available w ↦ record {
        number = w.number-is ∙ (ap (λ n. n + 1) c.loop-i.invariant.number ∙ sym (counted_yes passes c.loop-i.i (sym c.is_counted_available.ensures ∙ w.if-is_counted_available.true)));
        few = let is = w.number-is in let few = c.loop-i.invariant.few in omega arith;
      }
      | else-is_counted_available w ↦ record {
        number = w.number-is ∙ (c.loop-i.invariant.number ∙ sym (counted_no passes c.loop-i.i (sym c.is_counted_available.ensures ∙ w.if-is_counted_available.false)));
        few = let is = w.number-is in let few = c.loop-i.invariant.few in omega arith;
      }
    ]
