use Rattle.std.proofs.Common.{◌∙◌, FitsSigned, of_z, to_z, rules}
use Rattle.std.specs.Int.{w128}
use Rattle.std.proofs.lemmas.Int.{to_z-of_z}
use Rattle.office_steps.proofs.DrawnRounds.{members_short, says_short}
use Rattle.office_steps.proofs.draws.draw_in_round.Goals as goal

pub returns-in_ok-short-in-Some-clause-says : goal.returns-in_ok-short-in-Some-clause-says
returns-in_ok-short-in-Some-clause-says c =
    let fits : FitsSigned w128 c.number.result = search rules in
    rw c.in-Some.is
    (says_short c.args.bundle.now c.in_ok-short-in-Some.short c.in-Some.tickets (to_z w128 (of_z w128 c.number.result)) c.args.kept.now c.args.given.now c.args.digits.now c.draw_from-in-Some.result
    c.in_ok-short-in-Some.ensures.short (to_z-of_z w128 c.number.result fits ∙ c.number.ensures.value) c.draw_from-in-Some.ensures.says)

pub returns-in_ok-short-in-Some-clause-members : goal.returns-in_ok-short-in-Some-clause-members
returns-in_ok-short-in-Some-clause-members c =
    let fits : FitsSigned w128 c.number.result = search rules in
    members_short c.args.bundle.now c.in_ok-short-in-Some.short c.in-Some.tickets (to_z w128 (of_z w128 c.number.result)) c.draw_from-in-Some.result c.in_ok-short-in-Some.ensures.short
    (to_z-of_z w128 c.number.result fits ∙ c.number.ensures.value) c.draw_from-in-Some.ensures.members
