use Rattle.std.proofs.Common.{◌≡◌, ◌≤◌, ◌^◌, ◌∙◌, ℕ, List, ap, sym, subst, arith, unsigned_abs, true≢false}
use Rattle.std.specs.Int.{w128}
use Rattle.std.proofs.lemmas.Int.{ints, to_z-of_z}
use Rattle.define_bundles.specs.BundleText.{Bundle}
use Rattle.define_bundles.specs.Ranges.{IsInRanges}
use Rattle.define_pools.specs.Certificate.{Answer, Stage}
use Rattle.define_pools.specs.Lottery.{Lottery, TotalAgrees}
use Rattle.define_pools.specs.Pool.{Pool}
use Rattle.define_draws.specs.Short.{shortened}
use Rattle.define_draws.proofs.ShortRanges.{short_in_ranges}
use Rattle.short_tickets.proofs.bundles.short_bundle.Goals as goal

-- the shortened lottery of a bundle, with the bundle's pool and stages, is in the ranges of a bundle
made_in_ranges : (bundle : Bundle) (pool : Pool) (lottery : Lottery) (stages : List Stage) (tickets : ℕ) → IsInRanges bundle.pool bundle.answer → 1 ≤ tickets → tickets ≤ 10 ^ 9 →
    pool ≡ bundle.pool → lottery ≡ shortened bundle.answer.lottery tickets → stages ≡ bundle.answer.stages → TotalAgrees lottery → IsInRanges pool (record { lottery = lottery; stages = stages })
made_in_ranges bundle pool lottery stages tickets are some few pool_is lottery_is stages_are agrees =
    let short = short_in_ranges bundle.pool bundle.answer tickets are some few (subst (λ (l : Lottery). TotalAgrees l) lottery_is agrees) in
    subst (λ (p : Pool). IsInRanges p (record { lottery = lottery; stages = stages })) (sym pool_is)
    (subst (λ (l : Lottery). IsInRanges bundle.pool (record { lottery = l; stages = stages })) (sym lottery_is)
    (subst (λ (s : List Stage). IsInRanges bundle.pool (record { lottery = shortened bundle.answer.lottery tickets; stages = s })) (sym stages_are) short))

pub unreachable-requires : goal.unreachable-requires
unreachable-requires c =
    let bundle = c.args.bundle.now in
    let lottery : c.lottery.result.now ≡ bundle.answer.lottery = c.lottery.ensures ∙ ap (λ (a : Answer). a.lottery) c.answer.ensures.value in
    let stages : c.certificate.result.now ≡ bundle.answer.stages = c.certificate.ensures ∙ ap (λ (a : Answer). a.stages) c.answer-2.ensures.value in
    let ranges = made_in_ranges bundle c.in_ok-copy-2.field-0 c.in_ok-lottery.lottery c.in_ok-copy.field-0 (unsigned_abs c.args.tickets) c.answer.ensures.in_ranges
    (omega (arith, ints, c.requires.from)) (omega (arith, ints, c.requires.to))
    (c.in_ok-copy-2.ensures ∙ c.pool.ensures)
    (c.in_ok-lottery.ensures.shortened
    ∙ (ap (λ n. shortened c.lottery.result.now n) (ap unsigned_abs (to_z-of_z w128 c.args.tickets c.ranges.tickets)) ∙ ap (λ (l : Lottery). shortened l (unsigned_abs c.args.tickets)) lottery))
    (c.in_ok-copy.ensures ∙ stages) c.in_ok-lottery.ensures.agrees in
    true≢false (sym (c.in-None.ensures.exact.1 (subst (λ (a : Answer). IsInRanges c.in_ok-copy-2.field-0 a) (sym c.new-answer.ensures) ranges)))
