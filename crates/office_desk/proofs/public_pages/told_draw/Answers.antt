use Rattle.std.proofs.Common.{◌≡◌, ℕ, List, ap, ◌∙◌}
use Rattle.std.proofs.lemmas.Result.{IfOk-weaker}
use Rattle.define_offices.specs.Pools.{drawn_lottery}
use Rattle.define_desk.specs.Desk.{draw_body}
use Rattle.define_desk.specs.Replies.{told}
use Rattle.office_desk.specs.Sent.{sent_of}
use Rattle.office_desk.proofs.NamedDigits.{named_utf8}
use Rattle.office_desk.proofs.public_pages.told_draw.Goals as goal

pub drawn_body-requires-clause-digits : goal.drawn_body-requires-clause-digits
drawn_body-requires-clause-digits c = named_utf8 (drawn_lottery c.args.bundle.now c.args.tickets.now).total c.args.digits.now c.requires.named

pub returns : goal.returns
returns c =
    let text : c.as_str.result.now ≡ draw_body c.args.bundle.now c.args.tickets.now c.args.digits.now = c.as_str.ensures.value ∙ c.in_ok-body-in-Some.ensures in
    IfOk-weaker c.told_json.result _ _ (λ answer is. is ∙ ap (λ (t : List ℕ). sent_of (told t)) text) c.told_json.ensures
