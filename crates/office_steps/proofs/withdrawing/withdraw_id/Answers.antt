use Rattle.std.proofs.Common.{◌≡◌, ℕ, List, Option, Some, get_or, ap, sym, subst, ◌∙◌}
use Rattle.define_offices.specs.Commands as office
use Rattle.define_offices.specs.Deciding.{place_of_id, withdraw_id_at, withdraw_row}
use Rattle.define_offices.specs.Tables.{Entry}
use Rattle.office_steps.specs.Steps.{Says}
use Rattle.office_steps.specs.Withdrawals.{IsPlaceOfId}
use Rattle.office_steps.proofs.withdrawing.withdraw_id.Goals as goal

pub returns : goal.returns
returns c =
    let tables = c.args.tables.now in
    let id = c.args.id.now in
    let place = c.in-Some.place in
    let entry = c.index-register-place.result in
    let read : entry ≡ get_or tables.register place entry = c.index-register-place.is ∙ ap (λ (register : List Entry). get_or register place entry) c.register-register.ensures in
    let at = subst (λ (register : List Entry). IsPlaceOfId register id (Some place)) c.register-register.ensures c.in-Some.ensures in
    let found : place_of_id tables.register id 0 ≡ Some (place, entry) = at.1 entry ∙ ap (λ (e : Entry). Some (place, e)) (sym read) in
    subst (λ (there : Option (ℕ × Entry)). Says (withdraw_id_at tables id there) c.withdraw_row.result) (sym found)
    (subst (λ (reply : office.Reply). Says (withdraw_row tables reply place entry) c.withdraw_row.result) c.in_ok-reply.ensures c.withdraw_row.ensures)
