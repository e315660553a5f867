use Rattle.std.proofs.Common.{◌∙◌, sym, subst}
use Rattle.office_steps.specs.Steps.{Says}
use Rattle.office_steps.proofs.DrawnRounds.{sealed_again, sealed_first}
use Rattle.office_steps.proofs.draws.seal_round.Goals as goal

pub returns-in-Solved : goal.returns-in-Solved
returns-in-Solved c =
    let first = sealed_first c.args.tables.now c.args.number c.args.tickets.now c.in-Some.round.now c.in-Some-bundle.bundle (sym c.in-Some.ensures) (sym c.phase.ensures ∙ c.in-Solved.is)
    (sym c.bundle.ensures ∙ c.in-Some-bundle.is) in
    subst (λ outcome. Says outcome c.new_seal.result) (sym first) c.new_seal.ensures

pub returns-in_default-phase : goal.returns-in_default-phase
returns-in_default-phase c =
    let again = sealed_again c.args.tables.now c.args.number c.args.tickets.now c.in-Some.round.now c.in-Some-bundle.bundle c.tickets.result.now (sym c.in-Some.ensures)
    (λ e. c.in_default-phase.not-Solved (c.phase.ensures ∙ e)) (sym c.bundle.ensures ∙ c.in-Some-bundle.is) (sym c.tickets.ensures) in
    subst (λ outcome. Says outcome c.same_seal.result) (sym again) c.same_seal.ensures
