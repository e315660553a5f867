use Rattle.std.proofs.Common.{List, length, ap, sym, ◌∙◌}
use Rattle.define_offices.specs.Tables.{Round, named_round}
use Rattle.office_desk.proofs.PublishedRounds.{phase_of_last, phase_shown}
use Rattle.office_desk.proofs.published.last_phase.Goals as goal

pub returns-in-Some : goal.returns-in-Some
returns-in-Some c =
    let rounds = c.args.tables.now.rounds in
    let many = ap (λ (all : List Round). named_round rounds (length all)) c.rounds.ensures in
    c.phase.ensures ∙ (ap phase_shown (c.in-Some.ensures ∙ many) ∙ sym (phase_of_last rounds))

pub returns-in-None : goal.returns-in-None
returns-in-None c =
    let rounds = c.args.tables.now.rounds in
    let many = ap (λ (all : List Round). named_round rounds (length all)) c.rounds.ensures in
    ap phase_shown (c.in-None.ensures ∙ many) ∙ sym (phase_of_last rounds)
