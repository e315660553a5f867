-- What an input is read as, and which answers about a text are right. Builds on Answers and Lines. The contract of every call that reads
-- its source cites it.
use Rattle.std.specs.Prelude.{◌≡◌, ℕ, List, Result, Ok, Err, ⊤}
use Rattle.define_lines.specs.Lines.{Fault}
use Rattle.command_shell.specs.declared.status.Cause.TheVariants.{Input}
use Rattle.command_shell.specs.declared.subject.Nothing.{Nothing}
use Rattle.text_lines.specs.declared.faults.TextStop.{TextStop}
use Rattle.text_lines.specs.declared.faults.TextStop.TheVariants as stop
use Rattle.command_shell.specs.Answers.{Saying, Stops}
use Rattle.command_shell.specs.Lines.{input_line}

-- A format of texts. `read` returns the value whose text the bytes are, or their first fault; `spells value bytes` holds if the bytes are
-- the text of the value.
pub record Format (Value : Type 0) : Type 1 where
  pub read : List ℕ → Result Value Fault
  pub spells : Value → List ℕ → Type 0

-- the right answers about some bytes. `Means` says which answers are right about a value
pub data About {Value : Type 0} (format : Format Value) (Means : Value → Saying → Type 0) (bytes : List ℕ) (answer : Saying) : Type 0 where
  -- the bytes are read as a value, whose text they are, and the answer is right about it
  AboutValue : (value : Value) → format.read bytes ≡ Ok value → format.spells value bytes → Means value answer → About format Means bytes answer
  -- status 3: `read` fails on the bytes, and the answer is the line of their first fault
  AboutFault : (fault : Fault) → format.read bytes ≡ Err fault → answer ≡ Stops Input (input_line fault) → About format Means bytes answer

-- what the code that reads these bytes may return; running out of memory is allowed at any time
abbrev pub IsRead : {Value : Type 0} → Format Value → List ℕ → Result Value TextStop → Type 0
IsRead format bytes (Ok value) = (format.read bytes ≡ Ok value) × format.spells value bytes
IsRead format bytes (Err (stop.Fault fault)) = format.read bytes ≡ Err (record { line = fault.line; kind = fault.kind })
IsRead format bytes (Err stop.OutOfMemory) = ⊤

-- the value that a command is asked about if it reads nothing
abbrev pub no_input : Nothing
no_input = record {}

abbrev pub nothing : Format Nothing
nothing = record { read = λ bytes. Ok no_input; spells = λ value bytes. ⊤ }
