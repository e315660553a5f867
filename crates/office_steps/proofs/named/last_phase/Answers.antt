use Rattle.std.proofs.Common.{◌∙◌, sym}
use Rattle.office_steps.proofs.NamedRounds.{last_is}
use Rattle.office_steps.proofs.named.last_phase.Goals as goal

pub returns-in-Some : goal.returns-in-Some
returns-in-Some c = let a = c.in-Some.ensures.value in c.phase.ensures ∙ sym (last_is c.args.rounds.now c.in-Some.round.now (sym a))
