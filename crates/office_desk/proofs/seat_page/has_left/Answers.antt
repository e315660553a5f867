use Rattle.std.proofs.Common.{ap, sym, ◌∙◌}
use Rattle.office_desk.proofs.Dropouts.{dropped_in, dropped_named}
use Rattle.office_desk.proofs.seat_page.has_left.Goals as goal

pub returns-in-Some : goal.returns-in-Some
returns-in-Some c =
    let id = c.args.id.now in
    c.has_dropped.ensures ∙ (ap (dropped_in id) c.in-Some.ensures ∙ sym (dropped_named id c.args.tables.now.rounds c.args.number))

pub returns-in-None : goal.returns-in-None
returns-in-None c =
    let id = c.args.id.now in
    ap (dropped_in id) c.in-None.ensures ∙ sym (dropped_named id c.args.tables.now.rounds c.args.number)
