use Rattle.std.proofs.Common.{◌∙◌, sym, ap}
use Rattle.std.proofs.lemmas.Result.{IfOk-weaker}
use Rattle.define_offices.specs.Facts.{are_tickets}
use Rattle.office_tables.specs.Seen.{seen_parts}
use Rattle.office_tables.proofs.KeptRounds.{bundle_breaks, drawn_keeps, open_keeps, undrawn_keeps}
use Rattle.office_tables.proofs.checking.round_keeps.Goals as goal

pub returns-in-None : goal.returns-in-None
returns-in-None c = open_keeps (seen_parts c.args.parts.now) c.args.round.now (sym c.bundle.ensures ∙ c.in-None.is)

pub returns-then-not-bundle_keeps : goal.returns-then-not-bundle_keeps
returns-then-not-bundle_keeps c =
    bundle_breaks (seen_parts c.args.parts.now) c.args.round.now c.in-Some.bundle c.bundle_keeps.result (sym c.bundle.ensures ∙ c.in-Some.is) c.bundle_keeps.ensures c.if-not-bundle_keeps.true

pub returns-in-Drawn : goal.returns-in-Drawn
returns-in-Drawn c =
    IfOk-weaker c.draw_keeps.result _ _
    (λ b is.
    drawn_keeps (seen_parts c.args.parts.now) c.args.round.now c.in-Some.bundle c.tickets-tickets.result.now c.digits.result.now c.dropped.result.now b (sym c.bundle.ensures ∙ c.in-Some.is)
    (sym c.phase.ensures ∙ c.in-Drawn.is) (c.bundle_keeps.ensures.0 c.if-not-bundle_keeps.false) c.tickets-tickets.ensures c.digits.ensures c.dropped.ensures is)
    c.draw_keeps.ensures

pub returns-in_default : goal.returns-in_default
returns-in_default c =
    undrawn_keeps (seen_parts c.args.parts.now) c.args.round.now c.in-Some.bundle (sym c.bundle.ensures ∙ c.in-Some.is) (λ e. c.in_default.not-Drawn (c.phase.ensures ∙ e))
    (c.bundle_keeps.ensures.0 c.if-not-bundle_keeps.false) (ap are_tickets (sym c.tickets-tickets.ensures) ∙ c.tickets_facts.ensures)
