-- The replies to a command that is given again.
use Rattle.std.specs.Prelude.{◌≡◌, ℕ, ◌+◌, ◌==◌, Bool, false, ◌&&◌, IsFalse, List, [], ◌∷◌, bytes_eq, codes, length, Option, Some, None}
use Rattle.define_pools.specs.Pool.{Category}
use Rattle.define_offices.specs.Tables.{Charter, Tables}
use Rattle.define_offices.specs.Commands.{Command, SetCharter, SetRules, Register, Solve, Keep, Seal, Draw, Drop, NextRound, Show, Withdraw, SetBounds, TryDraw, Undrop, Reopen, WithdrawId, Change, TakenBack, Reopened, NotDropped, Outcome, Reply, Replies, Refuses}
use Rattle.define_offices.specs.Deciding.{IsDecided, asked, no_round, tells}
use Rattle.define_offices.specs.Facts.{IsCommand, IsTables}
use Rattle.define_offices.specs.Lines.{charter_line, one_line, register_line, rules_line}
use Rattle.define_offices.specs.Steps.{Comes, LeadThrough, Leads, apply, applied}
use Rattle.std.specs.List.{AllByRecursion}

-- if a charter is given and gets a reply, the same charter, given again at once, gets the reply `same` and changes nothing
abbrev pub CharterAgain : Type 0
CharterAgain = (tables : Tables) (charter : Charter) (change : Option Change) (reply : Reply) → Comes tables (SetCharter charter) (Replies change reply) →
    asked (applied tables change) (SetCharter charter) ≡ IsDecided (tells (charter_line (codes "same")))

-- if rules are given and get a reply, the same rules, given again at once, get the reply `same` and change nothing
abbrev pub RulesAgain : Type 0
RulesAgain = (tables : Tables) (rules : List Category) (change : Option Change) (reply : Reply) → Comes tables (SetRules rules) (Replies change reply) →
    asked (applied tables change) (SetRules rules) ≡ IsDecided (tells (rules_line (codes "same")))

-- the reply to a command that had the reply `reply` and is given again, when the tables are `later`. If rows are registered again, all of
-- them are counted as repeated; any other command has the same reply
abbrev pub reply_again : Tables → Command → Reply → Reply
reply_again later (Register rows) reply = one_line (register_line 0 (length rows) (length later.register))
reply_again later (SetCharter charter) reply = reply
reply_again later (SetRules rules) reply = reply
reply_again later (Solve number limits) reply = reply
reply_again later (Keep number proof) reply = reply
reply_again later (Seal number tickets) reply = reply
reply_again later (Draw number given digits) reply = reply
reply_again later (Drop number id) reply = reply
reply_again later (NextRound after) reply = reply
reply_again later (Show number) reply = reply
reply_again later (Withdraw key) reply = reply
reply_again later (SetBounds number bounds) reply = reply
reply_again later (TryDraw number given digits) reply = reply
reply_again later (Undrop number id) reply = reply
reply_again later (Reopen number) reply = reply
reply_again later (WithdrawId id) reply = reply

-- true of the commands that may be repeated at any later time: all except a charter, rules and bounds, and those that take a change back
abbrev pub IsRepeatable : Command → Type 0
IsRepeatable (SetCharter charter) = ⊥
IsRepeatable (SetRules rules) = ⊥
IsRepeatable (Register rows) = Unit {0}
IsRepeatable (Solve number limits) = Unit {0}
IsRepeatable (Keep number proof) = Unit {0}
IsRepeatable (Seal number tickets) = Unit {0}
IsRepeatable (Draw number given digits) = Unit {0}
IsRepeatable (Drop number id) = Unit {0}
IsRepeatable (NextRound after) = Unit {0}
IsRepeatable (Show number) = Unit {0}
IsRepeatable (Withdraw key) = Unit {0}
IsRepeatable (SetBounds number bounds) = ⊥
IsRepeatable (TryDraw number given digits) = Unit {0}
IsRepeatable (Undrop number id) = ⊥
IsRepeatable (Reopen number) = ⊥
IsRepeatable (WithdrawId id) = Unit {0}

-- true of the commands that take no change back: all except `Undrop` and `Reopen`
abbrev pub TakesNothingBack : Command → Type 0
TakesNothingBack (SetCharter charter) = Unit {0}
TakesNothingBack (SetRules rules) = Unit {0}
TakesNothingBack (Register rows) = Unit {0}
TakesNothingBack (Solve number limits) = Unit {0}
TakesNothingBack (Keep number proof) = Unit {0}
TakesNothingBack (Seal number tickets) = Unit {0}
TakesNothingBack (Draw number given digits) = Unit {0}
TakesNothingBack (Drop number id) = Unit {0}
TakesNothingBack (NextRound after) = Unit {0}
TakesNothingBack (Show number) = Unit {0}
TakesNothingBack (Withdraw key) = Unit {0}
TakesNothingBack (SetBounds number bounds) = Unit {0}
TakesNothingBack (TryDraw number given digits) = Unit {0}
TakesNothingBack (Undrop number id) = ⊥
TakesNothingBack (Reopen number) = ⊥
TakesNothingBack (WithdrawId id) = Unit {0}

-- if a repeatable command made a change, and is given again after any other commands that take no change back, it changes nothing, and its
-- reply is `reply_again`
abbrev pub RepeatsChangeNothing : Type 0
RepeatsChangeNothing = (before : Tables) (command : Command) (change : Change) (reply : Reply) (between : List Command) (later : Tables) → IsRepeatable command →
    IsTables before → IsCommand command → AllByRecursion IsCommand between → AllByRecursion TakesNothingBack between →
    Comes before command (Replies (Some change) reply) → LeadThrough (apply before change) between later →
    asked later command ≡ IsDecided (Replies None (reply_again later command reply))

-- ---- changes that are taken back

-- the command is the dropout of `id` from this round
abbrev pub is_drop : Command → ℕ → List ℕ → Bool
is_drop (Drop number id) round other = (number == round) && bytes_eq id other
is_drop command round other = false

-- the command begins this round
abbrev pub is_begin : Command → ℕ → Bool
is_begin (NextRound after) round = after + 1 == round
is_begin command round = false

-- the change takes back what `command` changed: it takes the dropout back, or takes the round away that was begun
abbrev pub undoes : Change → Command → Bool
undoes (TakenBack round id) command = is_drop command round id
undoes (Reopened round) command = is_begin command round
undoes change command = false

abbrev pub takes_back : Outcome → Command → Bool
takes_back (Replies (Some change) reply) command = undoes change command
takes_back outcome command = false

-- a step from `before` to `after` that doesn't take back what `kept` changed
pub record LeadsSparing (kept : Command) (before : Tables) (command : Command) (after : Tables) : Type 0 where
  pub leads : Leads before command after
  pub spares : IsFalse (takes_back leads.outcome kept)

-- the commands lead from the tables `before` to the tables `after`, and none of them takes back what `kept` changed
abbrev pub LeadThroughSparing : Command → Tables → List Command → Tables → Type 0
LeadThroughSparing kept before [] after = after ≡ before
LeadThroughSparing kept before (command ∷ later) after = (next : Tables) × (LeadsSparing kept before command next × LeadThroughSparing kept next later after)

-- if a repeatable command made a change, and is given again after any other commands of which none took this change back, it changes
-- nothing, and its reply is `reply_again`
abbrev pub SparedRepeatsChangeNothing : Type 0
SparedRepeatsChangeNothing = (before : Tables) (command : Command) (change : Change) (reply : Reply) (between : List Command) (later : Tables) → IsRepeatable command →
    IsTables before → IsCommand command → AllByRecursion IsCommand between →
    Comes before command (Replies (Some change) reply) → LeadThroughSparing command (apply before change) between later →
    asked later command ≡ IsDecided (Replies None (reply_again later command reply))

-- if bounds are given for a round and get a reply, the same bounds, given again at once, get the reply `same` and change nothing
abbrev pub BoundsAgain : Type 0
BoundsAgain = (tables : Tables) (number : ℕ) (bounds : List Category) (change : Option Change) (reply : Reply) → IsTables tables → IsCommand (SetBounds number bounds) →
    Comes tables (SetBounds number bounds) (Replies change reply) →
    asked (applied tables change) (SetBounds number bounds) ≡ IsDecided (tells (rules_line (codes "same")))

-- if a dropout is taken back, taking it back again at once is refused
abbrev pub UndropAgain : Type 0
UndropAgain = (tables : Tables) (number : ℕ) (id : List ℕ) (change : Option Change) (reply : Reply) → Comes tables (Undrop number id) (Replies change reply) →
    asked (applied tables change) (Undrop number id) ≡ IsDecided (Refuses (NotDropped id))

-- if a round is taken away, taking it away again at once is refused: there is no such round
abbrev pub ReopenAgain : Type 0
ReopenAgain = (tables : Tables) (number : ℕ) (change : Option Change) (reply : Reply) → Comes tables (Reopen number) (Replies change reply) →
    asked (applied tables change) (Reopen number) ≡ IsDecided (no_round (applied tables change))
