use Rattle.std.proofs.Common.{◌≡◌, List, Some, ap, sym, ◌∙◌}
use Rattle.std.proofs.lemmas.Result.{IfOk-weaker}
use Rattle.define_draws.specs.Seal.{seal_of}
use Rattle.define_offices.specs.Deciding.{with_hash}
use Rattle.define_offices.specs.Tables.{Entry}
use Rattle.office_desk.specs.Pages.{body_of}
use Rattle.office_desk.specs.Sent.{sent_of}
use Rattle.office_desk.proofs.OwnReplies.{own_known}
use Rattle.office_desk.proofs.own_page.answer_to_key.Goals as goal

pub returns-in-Some : goal.returns-in-Some
returns-in-Some c =
    let hash = seal_of c.args.key.now in
    let row : Some c.in-Some.entry.now ≡ with_hash c.register.result.now hash = rw c.in-Some.is at c.in_ok-entry.ensures in
    let found = ap (λ (all : List Entry). with_hash all hash) (sym c.register.ensures) ∙ sym row in
    IfOk-weaker c.told_own.result _ _ (λ answer is. is ∙ ap sent_of (sym (own_known (body_of c.args.page) c.args.tables.now c.args.key.now c.in-Some.entry.now found))) c.told_own.ensures
