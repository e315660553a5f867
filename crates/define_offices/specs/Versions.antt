-- The versions of a store. A store of version 2 can keep tables that use nothing of what version 3 brought: a charter's number of rows, a
-- round number of tickets kept with a seal, and bounds of a round.
use Rattle.std.specs.Prelude.{◌==◌, Bool, true, false, not, ◌&&◌, IsTrue, Option, Some, None, is_some}
use Rattle.std.specs.List.{list_all}
use Rattle.define_offices.specs.Tables.{Charter, Round, Tables, tickets_of}
use Rattle.define_offices.specs.Commands.{Change, CharterSet, RulesSet, Added, SolvedWith, SealTold, DrawnWith, DroppedOut, Begun, Withdrawn, BoundsSet, TakenBack, Reopened}
use Rattle.define_offices.specs.Steps.{apply}

-- there is no charter, or the register takes 400 rows
abbrev pub is_second_charter : Option Charter → Bool
is_second_charter None = true
is_second_charter (Some charter) = charter.volunteers == 400

-- no round number of tickets is kept
abbrev pub is_second_round : Round → Bool
is_second_round round = not (is_some (tickets_of round))

-- a store of version 2 can keep the tables
abbrev pub is_second : Tables → Bool
is_second tables = is_second_charter tables.charter && list_all is_second_round tables.rounds && not (is_some tables.bounds)

-- a store of version 2 can keep the change
abbrev pub is_second_change : Change → Bool
is_second_change (CharterSet charter) = charter.volunteers == 400
is_second_change (RulesSet rules) = true
is_second_change (Added entries) = true
is_second_change (SolvedWith number bundle) = true
is_second_change (SealTold number tickets) = not (is_some tickets)
is_second_change (DrawnWith number digits) = true
is_second_change (DroppedOut number id) = true
is_second_change Begun = true
is_second_change (Withdrawn place) = true
is_second_change (BoundsSet bounds) = false
is_second_change (TakenBack number id) = true
is_second_change (Reopened number) = true

-- if a store of version 2 can keep tables and a change of them, it can keep the tables after this change
abbrev pub ChangesKeepSecond : Type 0
ChangesKeepSecond = (tables : Tables) (change : Change) → IsTrue (is_second tables) → IsTrue (is_second_change change) → IsTrue (is_second (apply tables change))
