use Rattle.std.proofs.Common.{◌≡◌, ◌∙◌, subst, sym}
use Rattle.define_bundles.specs.Ranges.{IsInRanges}
use Rattle.define_pools.specs.Pool.{Pool}
use Rattle.define_offices.proofs.Steps.{same_pools}
use Rattle.office_core.proofs.solving.keep_answer.Goals as goal

pub answered-requires : goal.answered-requires
answered-requires c =
    let bundle = c.args.bundle.now in
    let copied : bundle.answer ≡ c.in_ok-answer.answer = sym (c.in_ok-answer.ensures ∙ c.answer.ensures.value) in
    let same = same_pools bundle.pool c.args.pool c.facts.ensures.is_pool c.facts-2.ensures c.requires in
    subst (IsInRanges c.args.pool) copied (subst (λ (p : Pool). IsInRanges p bundle.answer) same c.facts.ensures.in_ranges)
