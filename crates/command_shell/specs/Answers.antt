-- What a command answers, the number of its status, and what makes an answer right. It imports equality, numbers and lists, and the types
-- `Answer`, `Printed`, `Cause` and `Status` of this crate's code; no other definition of the program. The meaning of every command is
-- written with these definitions.
use Rattle.std.specs.Prelude.{◌≡◌, ℕ, List}
use Rattle.command_shell.specs.declared.answer.Answer.{Answer}
use Rattle.command_shell.specs.declared.answer.Answer.TheVariants as answer
use Rattle.command_shell.specs.declared.status.Printed.{Printed}
use Rattle.command_shell.specs.declared.status.Printed.TheVariants.{Done, NoPanel, Refused}
use Rattle.command_shell.specs.declared.status.Cause.{Cause}
use Rattle.command_shell.specs.declared.status.Cause.TheVariants.{Input, Wide, Spent, Rule}
use Rattle.command_shell.specs.declared.status.Status.{Status}
use Rattle.command_shell.specs.declared.status.Status.TheVariants as status

-- an answer as lists of bytes: a text for out, or a line for errs
pub data Saying : Type 0 where
  Prints : (printed : Printed) (text : List ℕ) → Saying
  Stops : (cause : Cause) (line : List ℕ) → Saying

abbrev pub saying : Answer → Saying
saying (answer.Prints printed text) = Prints printed text.items
saying (answer.Stops cause line) = Stops cause line.items

abbrev pub printed_number : Printed → ℕ
printed_number Done = 0
printed_number NoPanel = 1
printed_number Refused = 11

abbrev pub cause_number : Cause → ℕ
cause_number Input = 3
cause_number Wide = 4
cause_number Spent = 5
cause_number Rule = 6

abbrev pub status_number : Status → ℕ
status_number (status.Printed printed) = printed_number printed
status_number status.Usage = 2
status_number (status.Stopped cause) = cause_number cause
status_number status.ReadFault = 7
status_number status.WriteFault = 8
status_number status.KeeperFault = 9
status_number status.DoorFault = 10
status_number status.WantOfMemory = 12

-- the number of the status with which an answer is told
abbrev pub status_of : Saying → ℕ
status_of (Prints printed text) = printed_number printed
status_of (Stops cause line) = cause_number cause

-- the text or the line of an answer
abbrev pub bytes_of : Saying → List ℕ
bytes_of (Prints printed text) = text
bytes_of (Stops cause line) = line

-- What the answers of a command mean: for each status, which text for out, or which line for errs, is right.
pub record RightAnswers : Type 1 where
  -- status 0: the text that the command was called for
  pub done : List ℕ → Type 0
  -- status 1: no quota panel exists
  pub no_panel : List ℕ → Type 0
  -- status 3: the input was read, but the command doesn't accept its value. Only commands about a bundle's lottery have this, if its
  -- weights don't sum to its total. The other cases of status 3 are in no meaning: a text outside its format is `AboutFault` (Subjects),
  -- and one that is too long `IsTooLong` (Outcomes)
  pub input : List ℕ → Type 0
  -- status 4: a number passes its width
  pub wide : List ℕ → Type 0
  -- status 5: a budget is spent
  pub spent : List ℕ → Type 0
  -- status 6: a rule refuses
  pub rule : List ℕ → Type 0
  -- status 11: a certificate or a proof is refused
  pub refused : List ℕ → Type 0

-- no text is right
abbrev pub never : List ℕ → Type 0
never text = ⊥

-- a meaning by which no answer is right. The meaning of a command starts from it and names the statuses that the command has
abbrev pub no_answer : RightAnswers
no_answer = record { done = never; no_panel = never; input = never; wide = never; spent = never; rule = never; refused = never }

-- the answer is right by this meaning
abbrev pub IsRight : RightAnswers → Saying → Type 0
IsRight meaning (Prints Done text) = meaning.done text
IsRight meaning (Prints NoPanel text) = meaning.no_panel text
IsRight meaning (Prints Refused text) = meaning.refused text
IsRight meaning (Stops Input line) = meaning.input line
IsRight meaning (Stops Wide line) = meaning.wide line
IsRight meaning (Stops Spent line) = meaning.spent line
IsRight meaning (Stops Rule line) = meaning.rule line

-- at most one answer is right by this meaning
abbrev pub HasOneAnswer : RightAnswers → Type 0
HasOneAnswer meaning = (first second : Saying) → IsRight meaning first → IsRight meaning second → first ≡ second

-- the answer is right by this meaning, and no other is
pub record IsTheAnswer (meaning : RightAnswers) (answer : Saying) : Type 0 where
  pub right : IsRight meaning answer
  pub only : (other : Saying) → IsRight meaning other → other ≡ answer
