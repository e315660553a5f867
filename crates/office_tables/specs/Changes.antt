-- A change as a value of the program, and the change of the definitions that it is.
use Rattle.define_offices.specs.Commands as office
use Rattle.define_offices.specs.Steps.{drawn_by, dropped_out, seal_told, solved_with, taken_back}
use Rattle.define_offices.specs.Tables.{Round}
use Rattle.office_tables.specs.declared.changes.Change.{Change}
use Rattle.office_tables.specs.declared.changes.Change.TheVariants.{Charter, Rules, Added, Solved, Sealed, Drawn, Dropped, Next, Withdrawn, Bounds, TakenBack, Reopened}

abbrev pub seen_change : Change → office.Change
seen_change (Charter charter) = office.CharterSet charter
seen_change (Rules rules) = office.RulesSet rules
seen_change (Added entries) = office.Added entries.items
seen_change (Solved round bundle) = office.SolvedWith round bundle
seen_change (Sealed round tickets) = office.SealTold round tickets
seen_change (Drawn round digits) = office.DrawnWith round digits.items
seen_change (Dropped round id) = office.DroppedOut round id
seen_change Next = office.Begun
seen_change (Withdrawn place) = office.Withdrawn place
seen_change (Bounds bounds) = office.BoundsSet bounds
seen_change (TakenBack round id) = office.TakenBack round id
seen_change (Reopened round) = office.Reopened round

-- the round after the change is made in it, even if the change names another round; a change that names no round leaves it as it is
abbrev pub round_after : office.Change → Round → Round
round_after (office.SolvedWith number bundle) round = solved_with bundle round
round_after (office.SealTold number tickets) round = seal_told tickets round
round_after (office.DrawnWith number digits) round = drawn_by digits round
round_after (office.DroppedOut number id) round = dropped_out id round
round_after (office.CharterSet charter) round = round
round_after (office.RulesSet rules) round = round
round_after (office.Added entries) round = round
round_after office.Begun round = round
round_after (office.Withdrawn place) round = round
round_after (office.BoundsSet bounds) round = round
round_after (office.TakenBack number id) round = taken_back id round
round_after (office.Reopened number) round = round
