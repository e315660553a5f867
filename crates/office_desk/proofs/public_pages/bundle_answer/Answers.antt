use Rattle.std.proofs.Common.{ap, ◌∙◌}
use Rattle.std.proofs.lemmas.Result.{IfOk-weaker}
use Rattle.define_desk.specs.Desk.{bundle_reply}
use Rattle.define_desk.specs.Views.{Published}
use Rattle.office_desk.specs.Sent.{sent_of}
use Rattle.office_desk.proofs.public_pages.bundle_answer.Goals as goal

pub returns-in-Nothing : goal.returns-in-Nothing
returns-in-Nothing c = c.refused.ensures ∙ ap (λ (p : Published). sent_of (bundle_reply c.args.request.now p)) c.in-Nothing.ensures.is

pub returns-in-TheBundle : goal.returns-in-TheBundle
returns-in-TheBundle c =
    IfOk-weaker c.bundle_by.result _ _ (λ answer is. is ∙ ap (λ (p : Published). sent_of (bundle_reply c.args.request.now p)) c.in-TheBundle.ensures.is) c.bundle_by.ensures

pub returns-in-TheDraw : goal.returns-in-TheDraw
returns-in-TheDraw c =
    IfOk-weaker c.bundle_by-in-TheDraw.result _ _ (λ answer is. is ∙ ap (λ (p : Published). sent_of (bundle_reply c.args.request.now p)) c.in-TheDraw.ensures.is) c.bundle_by-in-TheDraw.ensures
