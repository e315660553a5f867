use Rattle.std.proofs.Common.{◌∙◌, FitsSigned, of_z, to_z, rules}
use Rattle.std.specs.Int.{w128}
use Rattle.std.proofs.lemmas.Int.{to_z-of_z}
use Rattle.office_tables.proofs.DrawnPanels.{drawn_short}
use Rattle.office_tables.proofs.drawn.drawn_by.Goals as goal

pub returns-in_ok-short-in-Some : goal.returns-in_ok-short-in-Some
returns-in_ok-short-in-Some c =
    let fits : FitsSigned w128 c.number.result = search rules in
    rw c.in-Some.is
    (drawn_short c.args.bundle.now c.in_ok-short-in-Some.short c.in-Some.tickets (to_z w128 (of_z w128 c.number.result)) c.args.digits.now c.drawn_from-in-Some.result c.in_ok-short-in-Some.ensures.short
    (to_z-of_z w128 c.number.result fits ∙ c.number.ensures.value) c.drawn_from-in-Some.ensures)
