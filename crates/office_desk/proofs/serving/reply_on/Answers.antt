use Rattle.std.proofs.Common.{◌≡◌, Some, inl, map, ap, sym, ◌∙◌}
use Rattle.std.specs.Prelude.{codes}
use Rattle.define_desk.specs.Replies.{not_found}
use Rattle.define_desk.specs.Views.{published, published_of}
use Rattle.define_desk.specs.Desk.{WithdrawalPage, bundle_reply, draw_reply, if_by, own_reply, page_of, served_page}
use Rattle.office_desk.specs.Pages.{body_of}
use Rattle.office_desk.specs.declared.routes.Page.TheVariants.{Bundle, Draw, Own, Withdrawal}
use Rattle.office_desk.proofs.Ends.{at_bundle, at_draw, at_nothing, at_own, at_withdrawal, ends_reply, shown_reply}
use Rattle.office_desk.proofs.Statuses.{bundle_status, draw_status, no_fault, own_status}
use Rattle.office_desk.proofs.serving.reply_on.Goals as goal

pub returns-in-Some-Withdrawal-clause-desk : goal.returns-in-Some-Withdrawal-clause-desk
returns-in-Some-Withdrawal-clause-desk g c =
    let before = g.K.Keeper.tables c.args.keeper.now in
    let tables = c.args.tables.now in
    let request = c.args.request.now in
    let page : c.in-Some-Withdrawal.field-0 ≡ Withdrawal = rw c.in-Some-Withdrawal.is at c.in-Some-Withdrawal.field-0-is in
    let found = sym c.requires.page ∙ (c.in-Some-Withdrawal.is ∙ ap Some page) in
    ends_reply before tables request c.requires.loaded (served_page tables request (Some WithdrawalPage)) (g.K.Keeper.tables c.withdrawal_answer.new.keeper) c.withdrawal_answer.result
    (at_withdrawal tables request (page_of request.path) found) c.withdrawal_answer.ensures.ends

pub returns-in-Some-Own-clause-desk : goal.returns-in-Some-Own-clause-desk
returns-in-Some-Own-clause-desk g c =
    let tables = c.args.tables.now in
    let request = c.args.request.now in
    let reply = if_by (codes "GET") request (own_reply (body_of c.in-Some-Own.page) tables request.keys) in
    let page : c.in-Some-Own.field-0 ≡ Own c.in-Some-Own.page = rw c.in-Some-Own.is at c.in-Some-Own.field-0-is in
    let found = sym c.requires.page ∙ (c.in-Some-Own.is ∙ ap Some page) in
    shown_reply (g.K.Keeper.tables c.args.keeper.now) tables request c.requires.loaded reply c.or_short.result (at_own tables request (page_of request.path) c.in-Some-Own.page found)
    (c.or_short.ensures reply c.own_page_answer.ensures)

pub returns-in-Some-Own-clause-fault : goal.returns-in-Some-Own-clause-fault
returns-in-Some-Own-clause-fault g c =
    let tables = c.args.tables.now in
    let request = c.args.request.now in
    let reply = if_by (codes "GET") request (own_reply (body_of c.in-Some-Own.page) tables request.keys) in
    no_fault _ (g.K.Keeper.faults c.args.keeper.now) reply c.or_short.result (own_status (body_of c.in-Some-Own.page) (codes "GET") request tables request.keys) (c.or_short.ensures reply c.own_page_answer.ensures)

pub returns-in-Some-Bundle-clause-desk : goal.returns-in-Some-Bundle-clause-desk
returns-in-Some-Bundle-clause-desk g c =
    let tables = c.args.tables.now in
    let request = c.args.request.now in
    let round = c.in-Some-Bundle.round in
    let reply = bundle_reply request (published_of (map published tables.rounds) round) in
    let page : c.in-Some-Bundle.field-0 ≡ Bundle c.in-Some-Bundle.round = rw c.in-Some-Bundle.is at c.in-Some-Bundle.field-0-is in
    let found = sym c.requires.page ∙ (c.in-Some-Bundle.is ∙ ap Some page) in
    shown_reply (g.K.Keeper.tables c.args.keeper.now) tables request c.requires.loaded reply c.or_short-in-Some-Bundle.result (at_bundle tables request (page_of request.path) round found)
    (c.or_short-in-Some-Bundle.ensures reply c.bundle_answer.ensures)

pub returns-in-Some-Bundle-clause-fault : goal.returns-in-Some-Bundle-clause-fault
returns-in-Some-Bundle-clause-fault g c =
    let request = c.args.request.now in
    let shown = published_of (map published c.args.tables.now.rounds) c.in-Some-Bundle.round in
    no_fault _ (g.K.Keeper.faults c.args.keeper.now) (bundle_reply request shown) c.or_short-in-Some-Bundle.result (bundle_status request shown)
    (c.or_short-in-Some-Bundle.ensures (bundle_reply request shown) c.bundle_answer.ensures)

pub returns-in-Some-Draw-clause-desk : goal.returns-in-Some-Draw-clause-desk
returns-in-Some-Draw-clause-desk g c =
    let tables = c.args.tables.now in
    let request = c.args.request.now in
    let round = c.in-Some-Draw.round in
    let reply = draw_reply request (published_of (map published tables.rounds) round) in
    let page : c.in-Some-Draw.field-0 ≡ Draw c.in-Some-Draw.round = rw c.in-Some-Draw.is at c.in-Some-Draw.field-0-is in
    let found = sym c.requires.page ∙ (c.in-Some-Draw.is ∙ ap Some page) in
    shown_reply (g.K.Keeper.tables c.args.keeper.now) tables request c.requires.loaded reply c.or_short-in-Some-Draw.result (at_draw tables request (page_of request.path) round found)
    (c.or_short-in-Some-Draw.ensures reply c.draw_answer.ensures)

pub returns-in-Some-Draw-clause-fault : goal.returns-in-Some-Draw-clause-fault
returns-in-Some-Draw-clause-fault g c =
    let request = c.args.request.now in
    let shown = published_of (map published c.args.tables.now.rounds) c.in-Some-Draw.round in
    no_fault _ (g.K.Keeper.faults c.args.keeper.now) (draw_reply request shown) c.or_short-in-Some-Draw.result (draw_status request shown)
    (c.or_short-in-Some-Draw.ensures (draw_reply request shown) c.draw_answer.ensures)

pub returns-in-None-clause-desk : goal.returns-in-None-clause-desk
returns-in-None-clause-desk g c =
    let tables = c.args.tables.now in
    let request = c.args.request.now in
    let found = sym c.requires.page ∙ c.in-None.is in
    shown_reply (g.K.Keeper.tables c.args.keeper.now) tables request c.requires.loaded not_found c.refused.result (at_nothing tables request (page_of request.path) found) (inl c.refused.ensures)
