use Rattle.std.proofs.Common.{◌≡◌, sym, ap, ◌∙◌, subst}
use Rattle.define_bundles.specs.BundleText.{Bundle}
use Rattle.define_checks.specs.Reasons.{first_reason, lottery_reasons}
use Rattle.define_checks.proofs.ReasonsStand.{total_agrees}
use Rattle.define_pools.specs.Certificate.{Answer}
use Rattle.define_pools.specs.Lottery.{TotalAgrees}
use Rattle.define_pools.specs.Pool.{Pool}
use Rattle.cover_cert.proofs.Stages.{is_valid}
use Rattle.cover_cert.proofs.checking.cover_verdict.Goals as goal

pub begin-requires : goal.begin-requires
begin-requires g c =
    let bundle = c.args.cover.now.bundle in
    let answer_is : c.answer-answer.result.now ≡ bundle.answer = c.answer-answer.ensures.value ∙ ap (λ (it : Bundle). it.answer) c.bundle-2.ensures in
    let pool_is : c.pool-pool.result.now ≡ bundle.pool = c.pool-pool.ensures ∙ ap (λ (it : Bundle). it.pool) c.bundle.ensures in
    subst (λ (it : Answer). TotalAgrees it.lottery) (sym answer_is)
    (total_agrees bundle.pool bundle.answer c.lottery.result.now c.facts.ensures.is_bundle.in_ranges (c.lottery.ensures ∙ ap (λ (it : Answer). it.lottery) answer_is)
    (ap (λ (it : Pool). first_reason (lottery_reasons it c.lottery.result.now)) (sym pool_is) ∙ sym c.in_ok-verdict.ensures ∙ is_valid c.in_ok-verdict.verdict (sym c.is_valid.ensures ∙ c.if-not-is_valid.false)))
