use Rattle.std.proofs.Common.{◌∙◌, sym, subst}
use Rattle.office_steps.specs.Steps.{Says}
use Rattle.office_steps.proofs.DrawnRounds.{bundle_agrees, digits_name, drawn_again, drawn_first}
use Rattle.office_steps.proofs.draws.draw_round.Goals as goal

pub new_draw-requires : goal.new_draw-requires
new_draw-requires c =
    bundle_agrees c.args.tables.now c.args.number c.in-Some.round.now c.in-Some-bundle.bundle c.facts.ensures (sym c.in-Some.ensures) (sym c.bundle.ensures ∙ c.in-Some-bundle.is)

pub returns-in-Sealed : goal.returns-in-Sealed
returns-in-Sealed c =
    let first = drawn_first c.args.tables.now c.args.number c.args.given.now c.args.digits.now c.in-Some.round.now c.in-Some-bundle.bundle c.tickets-tickets.result.now
    (sym c.in-Some.ensures) (sym c.phase.ensures ∙ c.in-Sealed.is) (sym c.bundle.ensures ∙ c.in-Some-bundle.is) (sym c.tickets-tickets.ensures) in
    subst (λ outcome. Says outcome c.new_draw.result) (sym first) c.new_draw.ensures

pub same_draw-requires-clause-agrees : goal.same_draw-requires-clause-agrees
same_draw-requires-clause-agrees c =
    bundle_agrees c.args.tables.now c.args.number c.in-Some.round.now c.in-Some-bundle.bundle c.facts.ensures (sym c.in-Some.ensures) (sym c.bundle.ensures ∙ c.in-Some-bundle.is)

pub same_draw-requires-clause-named : goal.same_draw-requires-clause-named
same_draw-requires-clause-named c =
    digits_name c.args.tables.now c.args.number c.in-Some.round.now c.in-Some-bundle.bundle c.tickets-tickets.result.now c.digits.result.now c.facts.ensures (sym c.in-Some.ensures)
    (sym c.phase.ensures ∙ c.in-Drawn.is) (sym c.bundle.ensures ∙ c.in-Some-bundle.is) (sym c.tickets-tickets.ensures) (sym c.digits.ensures)

pub returns-in-Drawn : goal.returns-in-Drawn
returns-in-Drawn c =
    let again = drawn_again c.args.tables.now c.args.number c.args.given.now c.args.digits.now c.in-Some.round.now c.in-Some-bundle.bundle c.tickets-tickets.result.now c.digits.result.now
    (sym c.in-Some.ensures) (sym c.phase.ensures ∙ c.in-Drawn.is) (sym c.bundle.ensures ∙ c.in-Some-bundle.is) (sym c.tickets-tickets.ensures) (sym c.digits.ensures) in
    subst (λ outcome. Says outcome c.same_draw.result) (sym again) c.same_draw.ensures
