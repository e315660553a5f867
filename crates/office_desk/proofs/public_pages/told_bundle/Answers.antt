use Rattle.std.proofs.Common.{◌≡◌, ap, ◌∙◌}
use Rattle.define_bundles.specs.BundleText.{bundle_spelling, bundle_text}
use Rattle.office_desk.proofs.public_pages.told_bundle.Goals as goal

pub returns : goal.returns
returns c =
    let text : c.deref.result.now ≡ bundle_spelling c.args.bundle.now =
    c.deref.ensures.value ∙ (c.in_ok-text.ensures.spelled ∙ (ap (λ pool. bundle_text pool c.answer.result.now) c.pool.ensures ∙ ap (bundle_text c.args.bundle.now.pool) c.answer.ensures.value)) in
    rw text at c.told_plain.ensures
