-- A store becomes one of version 3 only where it must.
use Rattle.std.specs.Prelude.{◌≡◌, IsTrue, IsFalse, Some}
use Rattle.define_offices.specs.Tables.{Tables}
use Rattle.define_offices.specs.Commands.{Command, Change, Reply, Replies}
use Rattle.define_offices.specs.Facts.{IsCommand, IsTables}
use Rattle.define_offices.specs.Steps.{Comes, apply}
use Rattle.define_offices.specs.Versions.{is_second, is_second_change}

-- if the reply to a command within its limits comes with a change that a store of version 2 can't keep, such a store can't keep the tables
-- after this change either; the facts hold of the tables before
abbrev pub OthersAreThird : Type 0
OthersAreThird = (tables : Tables) (command : Command) (change : Change) (reply : Reply) → IsTables tables → IsCommand command → Comes tables command (Replies (Some change) reply) →
    IsFalse (is_second_change change) → IsFalse (is_second (apply tables change))

-- if a store of version 2 can keep the tables, it can keep the tables after a change of a command within its limits exactly if it can keep
-- this change
abbrev pub ChangesDecideVersions : Type 0
ChangesDecideVersions = (tables : Tables) (command : Command) (change : Change) (reply : Reply) → IsTables tables → IsCommand command → Comes tables command (Replies (Some change) reply) →
    IsTrue (is_second tables) → is_second (apply tables change) ≡ is_second_change change
