use Rattle.std.proofs.Common.{◌∙◌, ap, sym}
use Rattle.office_steps.proofs.KeyRows.{is_open, last_open}
use Rattle.office_steps.proofs.withdrawing.is_last_open.Goals as goal

pub returns-in-Open : goal.returns-in-Open
returns-in-Open c = sym (last_open c.args.rounds.now c.if-rounds-lt1.false ∙ ap is_open (sym c.last_phase.ensures ∙ c.in-Open.is))

pub returns-in-Solved : goal.returns-in-Solved
returns-in-Solved c = sym (last_open c.args.rounds.now c.if-rounds-lt1.false ∙ ap is_open (sym c.last_phase.ensures ∙ c.in-Solved.is))

pub returns-in-Sealed : goal.returns-in-Sealed
returns-in-Sealed c = sym (last_open c.args.rounds.now c.if-rounds-lt1.false ∙ ap is_open (sym c.last_phase.ensures ∙ c.in-Sealed.is))

pub returns-in-Drawn : goal.returns-in-Drawn
returns-in-Drawn c = sym (last_open c.args.rounds.now c.if-rounds-lt1.false ∙ ap is_open (sym c.last_phase.ensures ∙ c.in-Drawn.is))
