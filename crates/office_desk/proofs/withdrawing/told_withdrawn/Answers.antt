use Rattle.std.proofs.Common.{◌≡◌, List, ℕ, Option, Some, ap, subst, sym, ◌∙◌}
use Rattle.define_draws.specs.Seal.{seal_of}
use Rattle.define_offices.specs.Deciding.{with_hash}
use Rattle.define_offices.specs.Tables.{Entry}
use Rattle.define_desk.specs.Desk.{withdrawn_body}
use Rattle.define_desk.specs.Replies.{told}
use Rattle.office_desk.specs.Sent.{sent_of}
use Rattle.office_desk.specs.Withdrawals.{TellsWithdrawn}
use Rattle.office_desk.proofs.withdrawing.told_withdrawn.Goals as goal

pub returns-in_ok-told_json-in-Some : goal.returns-in_ok-told_json-in-Some
returns-in_ok-told_json-in-Some c =
    let hash = seal_of c.args.key.now in
    let reply = c.in_ok-told_json-in-Some.field-0 in
    let row : Some c.in-Some.entry.now ≡ with_hash c.register.result.now hash = rw c.in-Some.is at c.in_ok-entry.ensures in
    let found = ap (λ (all : List Entry). with_hash all hash) (sym c.register.ensures) ∙ sym row in
    let text = c.as_str-in-Some.ensures.value ∙ (c.in_ok-body-in-Some.ensures ∙ ap withdrawn_body (c.as_str.ensures ∙ c.id.ensures)) in
    let is : reply ≡ sent_of (told (withdrawn_body c.in-Some.entry.now.id)) = c.in_ok-told_json-in-Some.ensures ∙ ap (λ (t : List ℕ). sent_of (told t)) text in
    subst (λ (row : Option Entry). TellsWithdrawn row (Some reply)) (sym found) (ap Some is)
