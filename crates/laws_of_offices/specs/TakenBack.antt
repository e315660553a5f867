-- A change that is taken back leaves the tables as they were.
use Rattle.std.specs.Prelude.{◌≡◌, ℕ, ◌+◌, IsFalse, List, [], length, Some, None}
use Rattle.define_pools.specs.Lists.{includes_list}
use Rattle.define_offices.specs.Tables.{Round, Open, Solved, Sealed, Drawn, Tables, named_round}
use Rattle.define_offices.specs.Commands.{Drop, NextRound, Undrop, Reopen, Change, DroppedOut, Begun, TakenBack, Reopened, Reply, Replies}
use Rattle.define_offices.specs.Deciding.{is_withdrawn, with_id}
use Rattle.define_offices.specs.Facts.{IsTables}
use Rattle.define_offices.specs.Pools.{pool_of}
use Rattle.define_offices.specs.Steps.{Comes, Leads, apply}

-- the ids of the volunteers who dropped out of a round
abbrev pub dropped_of : Round → List (List ℕ)
dropped_of Open = []
dropped_of (Solved bundle) = []
dropped_of (Sealed bundle tickets) = []
dropped_of (Drawn bundle tickets digits dropped) = dropped

-- a dropout of somebody who had not dropped out of this round, taken back, leaves the tables as they were
abbrev pub DropsGoBack : Type 0
DropsGoBack = (tables : Tables) (number : ℕ) (id : List ℕ) → ((round : Round) → named_round tables.rounds number ≡ Some round → IsFalse (includes_list (dropped_of round) id)) →
    apply (apply tables (DroppedOut number id)) (TakenBack number id) ≡ tables

-- a round that is begun and taken away leaves the tables as they were, without bounds
abbrev pub RoundsGoBack : Type 0
RoundsGoBack = (tables : Tables) → apply (apply tables Begun) (Reopened (length tables.rounds + 1)) ≡ record tables { bounds = None }

-- if a dropout changed the tables, and this volunteer did not withdraw, the dropout can be taken back at once; the tables are then as they
-- were before it
abbrev pub DropThenUndrop : Type 0
DropThenUndrop = (tables : Tables) (number : ℕ) (id : List ℕ) (change : Change) (reply : Reply) → IsFalse (is_withdrawn (with_id tables.register id)) →
    Comes tables (Drop number id) (Replies (Some change) reply) → Leads (apply tables change) (Undrop number id) tables

-- if the next round was begun, it can be taken away at once; the tables are then as they were before, without bounds
abbrev pub NextThenReopen : Type 0
NextThenReopen = (tables : Tables) (number : ℕ) (change : Change) (reply : Reply) → Comes tables (NextRound number) (Replies (Some change) reply) →
    Leads (apply tables change) (Reopen (number + 1)) (record tables { bounds = None })

-- these bounds are of no use any more: when the next round can begin, each round has the same pool without them
abbrev pub BoundsAreSpent : Type 0
BoundsAreSpent = (tables : Tables) (after : ℕ) (reply : Reply) (number : ℕ) → IsTables tables → Comes tables (NextRound after) (Replies (Some Begun) reply) → pool_of (record tables { bounds = None }) number ≡ pool_of tables number
