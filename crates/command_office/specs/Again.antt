-- What a command does that is given again: laws for all commands and outcomes, and the desk's withdrawal.
use Rattle.std.specs.Prelude.{◌≡◌, ◌≢◌, ℕ, List, [], ◌∷◌, codes, Option, Some, None}
use Rattle.std.specs.List.{AllByRecursion}
use Rattle.define_desk.specs.Desk.{WithdrawalPage, leaving, page_of, served}
use Rattle.define_desk.specs.Requests.{Request}
use Rattle.define_offices.specs.Commands.{Change, Command, Outcome, Replies, Reply, Reopen, SetBounds, SetCharter, SetRules, Undrop, Withdraw}
use Rattle.define_offices.specs.Facts.{IsCommand, IsTables}
use Rattle.define_offices.specs.Lines.{charter_line, one_line, rules_line}
use Rattle.define_offices.specs.Repeats.{LeadThroughSparing, ReopenAgain, TakesNothingBack, UndropAgain, reply_again}
use Rattle.define_offices.specs.Steps.{Comes, LeadThrough, applied, apply, tables_after}
use Rattle.define_offices.specs.Tables.{Tables}

-- the command has this outcome over the tables, and no other
pub record HasOutcome (tables : Tables) (command : Command) (outcome : Outcome) : Type 0 where
  pub comes : Comes tables command outcome
  pub only : (other : Outcome) → Comes tables command other → other ≡ outcome

-- a charter, rules and bounds are given again at once; any other command, which made a change and took none back, at any later time
abbrev pub MayComeAgain : Command → Option Change → List Command → Type 0
MayComeAgain (SetCharter charter) change between = between ≡ []
MayComeAgain (SetRules rules) change between = between ≡ []
MayComeAgain (SetBounds round bounds) change between = between ≡ []
MayComeAgain (Undrop round id) change between = ⊥
MayComeAgain (Reopen round) change between = ⊥
MayComeAgain other change between = change ≢ None

-- the reply then: `same` to a charter, rules and bounds, all rows counted as repeated to a register, and to any other command the reply that it had
abbrev pub replied_again : Tables → Command → Reply → Reply
replied_again later (SetCharter charter) reply = one_line (charter_line (codes "same"))
replied_again later (SetRules rules) reply = one_line (rules_line (codes "same"))
replied_again later (SetBounds round bounds) reply = one_line (rules_line (codes "same"))
replied_again later other reply = reply_again later other reply

pub record RepeatsChangeNothing : Type 0 where
  -- a command that had a reply, and is given again after the commands `between`, which take no change back, changes nothing
  pub replies : (before : Tables) (command : Command) (change : Option Change) (reply : Reply) (between : List Command) (later : Tables) → IsTables before → IsCommand command →
      AllByRecursion IsCommand between → AllByRecursion TakesNothingBack between → Comes before command (Replies change reply) → LeadThrough (applied before change) between later →
      MayComeAgain command change between → HasOutcome later command (Replies None (replied_again later command reply))
  -- nor does it after any commands, as long as none of them took back what it changed
  pub spared : (before : Tables) (command : Command) (change : Option Change) (reply : Reply) (between : List Command) (later : Tables) → IsTables before → IsCommand command →
      AllByRecursion IsCommand between → Comes before command (Replies change reply) → LeadThroughSparing command (applied before change) between later → MayComeAgain command change between →
      HasOutcome later command (Replies None (replied_again later command reply))
  -- a dropout that is taken back, and a round that is taken away: the same again at once is refused
  pub undrop : UndropAgain
  pub reopen : ReopenAgain
  -- a command that left the tables as they were, by a reply, a refusal, a stop or a refused proof, has the same outcome again at once
  pub others : (before : Tables) (command : Command) (outcome : Outcome) → Comes before command outcome → tables_after before outcome ≡ before → HasOutcome (tables_after before outcome) command outcome
  -- a withdrawal at the desk that made a change, and comes again after the commands `between`, gets the same reply again and changes nothing
  pub withdrawal : (before : Tables) (key : List ℕ) (change : Change) (reply : Reply) (between : List Command) (later : Tables) → IsTables before → AllByRecursion IsCommand between →
      Comes before (Withdraw key) (Replies (Some change) reply) → LeadThrough (apply before change) between later →
      (request : Request) → page_of request.path ≡ Some WithdrawalPage → request.method ≡ codes "POST" → request.keys ≡ key ∷ [] →
      served later request ≡ leaving later (served before request).reply
