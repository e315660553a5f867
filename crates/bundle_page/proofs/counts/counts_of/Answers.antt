use Rattle.std.proofs.Common.{◌≡◌, ℕ, ◌<◌, ◌≤◌, List, length, get_or, subst, sym, ap, ◌∙◌}
use Rattle.std.proofs.lemmas.Result.{IfOk-weaker}
use Rattle.define_pools.specs.Lottery.{counts}
use Rattle.bundle_page.proofs.SummedCounts.{counts_each, counts_within}
use Rattle.bundle_page.proofs.counts.counts_of.Goals as goal

pub returns-clause-each : goal.returns-clause-each
returns-clause-each c =
    let pool = c.args.pool.now in
    let lottery = c.args.lottery.now in
    IfOk-weaker c.unsigned_counts.result (λ v. v.items ≡ counts pool lottery) (λ v. length v.items ≡ length pool.volunteers)
    (λ v e. ap length e ∙ counts_each pool lottery) c.unsigned_counts.ensures

pub returns-clause-within : goal.returns-clause-within
returns-clause-within c =
    let pool = c.args.pool.now in
    let lottery = c.args.lottery.now in
    IfOk-weaker c.unsigned_counts.result (λ v. v.items ≡ counts pool lottery) (λ v. (i : ℕ) → i < length v.items → get_or v.items i 0 ≤ lottery.total)
    (λ v e. subst (λ (xs : List ℕ). (i : ℕ) → i < length xs → get_or xs i 0 ≤ lottery.total) (sym e) (counts_within pool lottery c.requires)) c.unsigned_counts.ensures
