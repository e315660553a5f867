use Rattle.std.proofs.Common.{ap, subst, sym, ◌∙◌}
use Rattle.office_desk.specs.Shown.{IsSound}
use Rattle.office_desk.proofs.PublishedRounds.{number_sound, of_number, shown}
use Rattle.office_desk.proofs.published.published_of.Goals as goal

pub returns-in-Some-clause-is : goal.returns-in-Some-clause-is
returns-in-Some-clause-is c = c.published_in.ensures ∙ (ap shown c.in-Some.ensures ∙ sym (of_number c.args.tables.now.rounds c.args.number))

pub returns-in-Some-clause-sound : goal.returns-in-Some-clause-sound
returns-in-Some-clause-sound c = subst IsSound (sym (c.published_in.ensures ∙ ap shown c.in-Some.ensures)) (number_sound c.args.tables.now c.facts.ensures c.args.number)

pub returns-in-None-clause-is : goal.returns-in-None-clause-is
returns-in-None-clause-is c = ap shown c.in-None.ensures ∙ sym (of_number c.args.tables.now.rounds c.args.number)
