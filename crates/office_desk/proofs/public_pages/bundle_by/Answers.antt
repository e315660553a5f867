use Rattle.std.proofs.Common.{◌≡◌, true, false, ap, sym, ◌∙◌, rules}
use Rattle.std.specs.Prelude.{codes}
use Rattle.std.specs.Str.{bytes_eq}
use Rattle.std.proofs.lemmas.Result.{IfOk-weaker}
use Rattle.define_bundles.specs.BundleText.{bundle_spelling}
use Rattle.define_desk.specs.Replies.{told_text}
use Rattle.office_desk.specs.Sent.{sent_of}
use Rattle.office_desk.proofs.ByMethod.{by_method, by_other}
use Rattle.office_desk.proofs.public_pages.bundle_by.Goals as goal

pub returns-then-eq : goal.returns-then-eq
returns-then-eq c =
    let got : bytes_eq c.args.request.now.method (codes "GET") ≡ true = search rules in
    IfOk-weaker c.told_bundle.result _ _
    (λ answer is. is ∙ ap sent_of (sym (by_method (codes "GET") c.args.request.now (told_text (bundle_spelling c.args.bundle.now)) got))) c.told_bundle.ensures

pub returns-else-eq : goal.returns-else-eq
returns-else-eq c =
    let other : bytes_eq c.args.request.now.method (codes "GET") ≡ false = search rules in
    c.refused.ensures ∙ ap sent_of (sym (by_other (codes "GET") c.args.request.now (told_text (bundle_spelling c.args.bundle.now)) other))
