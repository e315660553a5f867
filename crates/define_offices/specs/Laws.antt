-- Laws of every step of an office, and of the tables that a list of commands leaves. The facts of tables are those of `IsTables` in
-- Facts.antt.
use Rattle.std.specs.Prelude.{◌≡◌, ℕ, List, [], ◌∷◌, ◌++◌, ◌≢◌, IsTrue, Ok, Option, Some}
use Rattle.std.specs.List.{AllByRecursion}
use Rattle.define_pools.specs.Pool.{Category, IsPool, Pool}
use Rattle.define_offices.specs.Tables.{Tables, same_rules, same_shape}
use Rattle.define_offices.specs.Commands.{Command, Draw, SetBounds, TryDraw, Change, Outcome, Reply, Replies}
use Rattle.define_offices.specs.Pools.{pool_of}
use Rattle.define_offices.specs.Deciding.{without_change}
use Rattle.define_offices.specs.Facts.{AreRules, AreCertified, AreGreatest, IsCommand, IsTables}
use Rattle.define_offices.specs.Steps.{Comes, Folds, Leads, applied, apply}

-- if the facts hold of the tables, the pool of each round satisfies `IsPool`
abbrev pub PoolsArePools : Type 0
PoolsArePools = (tables : Tables) (number : ℕ) (pool : Pool) → IsTables tables → pool_of tables number ≡ Ok pool → IsPool pool

-- a pool with other bounds, which may be rules and have the names of the pool's categories and values in the same order, satisfies `IsPool`
abbrev pub BoundedPoolsArePools : Type 0
BoundedPoolsArePools = (pool : Pool) (bounds : List Category) → IsPool pool → AreRules bounds → IsTrue (same_shape pool.categories bounds) → IsPool (record pool { categories = bounds })

-- if the facts hold of the tables, each command within its limits has an outcome
abbrev pub CommandsHaveOutcomes : Type 0
CommandsHaveOutcomes = (tables : Tables) (command : Command) → IsTables tables → IsCommand command → (outcome : Outcome) × Comes tables command outcome

-- a command over given tables has at most one outcome
abbrev pub StepsAreFunctions : Type 0
StepsAreFunctions = (tables : Tables) (command : Command) (one other : Outcome) → Comes tables command one → Comes tables command other → one ≡ other

-- if the facts hold of tables, they hold of the tables after a command that is within its limits
abbrev pub StepsKeepTables : Type 0
StepsKeepTables = (before : Tables) (command : Command) (after : Tables) → IsTables before → IsCommand command → Leads before command after → IsTables after

-- if the facts hold of tables and all their bundles are certified, all bundles are certified after a command that is within its limits
abbrev pub StepsKeepCertified : Type 0
StepsKeepCertified = (before : Tables) (command : Command) (after : Tables) → IsTables before → IsCommand command → AreCertified before → Leads before command after → AreCertified after

-- the facts hold of all tables that a list of commands leaves if each command is within its limits
abbrev pub FoldsAreTables : Type 0
FoldsAreTables = (commands : List Command) (tables : Tables) → AllByRecursion IsCommand commands → Folds commands tables → IsTables tables

-- in all tables that a list of commands leaves, each bundle's lottery is leximin greatest over its pool, if each command is within its
-- limits
abbrev pub FoldsAreGreatest : Type 0
FoldsAreGreatest = (commands : List Command) (tables : Tables) → AllByRecursion IsCommand commands → Folds commands tables → AreGreatest tables

-- if `commands` leave `before`, and `command` leads from `before` to `after`, then `commands` followed by `command` leave `after`
abbrev pub FoldsGrow : Type 0
FoldsGrow = (commands : List Command) (command : Command) (before after : Tables) → Folds commands before → Leads before command after → Folds (commands ++ command ∷ []) after

-- if the reply to a command comes with a change, this change alters the tables; the facts hold of them, and the command is within its
-- limits
abbrev pub ChangesChange : Type 0
ChangesChange = (tables : Tables) (command : Command) (change : Change) (reply : Reply) → IsTables tables → IsCommand command → Comes tables command (Replies (Some change) reply) → apply tables change ≢ tables

-- if bounds for a round get a reply, the pool of the round has these bounds
abbrev pub BoundsHold : Type 0
BoundsHold = (tables : Tables) (number : ℕ) (bounds : List Category) (change : Option Change) (reply : Reply) (pool : Pool) → IsTables tables → IsCommand (SetBounds number bounds) →
    Comes tables (SetBounds number bounds) (Replies change reply) → pool_of (applied tables change) number ≡ Ok pool → IsTrue (same_rules pool.categories bounds)

-- a draw that is tried has the outcome of the draw, without its change
abbrev pub TriesAreDraws : Type 0
TriesAreDraws = (tables : Tables) (number : ℕ) (given digits : List ℕ) (outcome : Outcome) → Comes tables (Draw number given digits) outcome → Comes tables (TryDraw number given digits) (without_change outcome)
