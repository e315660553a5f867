use Rattle.std.proofs.Common.{◌≡◌, true, ap, sym, ◌∙◌, rules}
use Rattle.std.specs.Prelude.{codes}
use Rattle.std.specs.Str.{bytes_eq}
use Rattle.std.proofs.lemmas.Result.{IfOk-weaker}
use Rattle.define_desk.specs.Desk.{draw_body}
use Rattle.define_desk.specs.Replies.{told}
use Rattle.office_desk.specs.Sent.{sent_of}
use Rattle.office_desk.proofs.ByMethod.{by_method}
use Rattle.office_desk.proofs.public_pages.draw_by.Goals as goal

pub returns-then-eq : goal.returns-then-eq
returns-then-eq c =
    let got : bytes_eq c.args.request.now.method (codes "GET") ≡ true = search rules in
    IfOk-weaker c.told_draw.result _ _
    (λ answer is. is ∙ ap sent_of (sym (by_method (codes "GET") c.args.request.now (told (draw_body c.args.bundle.now c.args.tickets.now c.args.digits.now)) got))) c.told_draw.ensures
