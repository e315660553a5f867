-- How a call of a command ends. `Right` says which answers are right. The status is computed from the answer that was told. Only this file
-- says at which status out or errs stays untouched: out at 2 to 7, 9, 10 and 12 (`IsStopped`), errs at 0, 1 and 11 (`IsPrinted`). Builds on
-- Told, Answers and Lines. The contract of every call cites it, up to `office`.
use Rattle.std.specs.Prelude.{◌≡◌, ◌⊎◌, ◌≤◌, ℕ, List, length}
use Rattle.command_shell.specs.declared.status.Printed.{Printed}
use Rattle.command_shell.specs.Told.{Bytes, Told, Gains, GainsLine, GainsPart, HasFaulted, HasNoFault, HeldAll, HeldMore, IsUntouched}
use Rattle.outside.specs.declared.reading.ReadStop.{ReadStop}
use Rattle.outside.specs.declared.reading.ReadStop.TheVariants as unread
use Rattle.command_shell.specs.Answers.{Saying, Prints, Stops, cause_number, printed_number}
use Rattle.command_shell.specs.Lines.{input_limit, read_fault_line, too_long_line, want_of_memory_line, write_fault_line}

-- ---- telling an answer, whether the source was read or not

-- status 0, 1 or 11: out gained the whole text, and errs is untouched
pub record IsPrinted (number : ℕ) (text : List ℕ) (told : Told) : Type 0 where
  pub status : told.status ≡ number
  pub out : Gains told.out text
  pub no_fault : HasNoFault told.out
  pub errs : IsUntouched told.errs

-- status 2 to 7, 9, 10 or 12: errs got the line, and out is untouched
pub record IsStopped (number : ℕ) (line : List ℕ) (told : Told) : Type 0 where
  pub status : told.status ≡ number
  pub out : IsUntouched told.out
  pub errs : GainsLine told.errs line

-- the answer was told whole, with its own status
abbrev pub IsTold : Saying → Told → Type 0
IsTold (Prints printed text) told = IsPrinted (printed_number printed) text told
IsTold (Stops cause line) told = IsStopped (cause_number cause) line told

-- status 8: out counted a fault, and gained a prefix of the text
pub record IsCutOff (text : List ℕ) (told : Told) : Type 0 where
  pub status : told.status ≡ 8
  pub faulted : HasFaulted told.out
  pub out : GainsPart told.out text
  pub errs : GainsLine told.errs write_fault_line

-- the answer was told, whole or cut off
abbrev pub IsToldOrCutOff : Saying → Told → Type 0
IsToldOrCutOff (Prints printed text) told = IsPrinted (printed_number printed) text told ⊎ IsCutOff text told
IsToldOrCutOff (Stops cause line) told = IsStopped (cause_number cause) line told

-- how a call ends, leaving aside an input that is too long and faults of the source
pub data Outcome (Right : Saying → Type 0) (told : Told) : Type 0 where
  -- a right answer was told, with its own status
  Answered : (answer : Saying) → Right answer → IsTold answer told → Outcome Right told
  -- status 8: out counted a fault while the text of a right answer was printed
  WriteFault : (printed : Printed) (text : List ℕ) → Right (Prints printed text) → IsCutOff text told → Outcome Right told
  -- status 12: want of memory, which is allowed at any time
  WantOfMemory : IsStopped 12 want_of_memory_line told → Outcome Right told

-- ---- calls that read the source

-- the answer is right about the bytes that the source held, all of which were read without a fault
pub record IsAboutSource (Means : List ℕ → Saying → Type 0) (source : Bytes) (answer : Saying) : Type 0 where
  pub bytes : List ℕ
  pub held : HeldAll source bytes
  pub within : length bytes ≤ input_limit
  pub no_fault : HasNoFault source
  pub means : Means bytes answer

-- status 3: the source held more bytes than an input may have, and was read past that limit
pub record IsTooLong (told : Told) : Type 0 where
  pub held : HeldMore told.source input_limit
  pub no_fault : HasNoFault told.source
  pub stopped : IsStopped 3 too_long_line told

-- status 7: the source counted a fault
pub record IsReadFault (told : Told) : Type 0 where
  pub faulted : HasFaulted told.source
  pub stopped : IsStopped 7 read_fault_line told

-- `bytes` are all that the source held; they were read without a fault, and are no more than an input may have
pub record IsInput (source : Bytes) (bytes : List ℕ) : Type 0 where
  pub held : HeldAll source bytes
  pub within : length bytes ≤ input_limit
  pub no_fault : HasNoFault source

-- what holds of a source that gave no input, by the reason
abbrev pub HasNoInput : ReadStop → Bytes → Type 0
HasNoInput unread.TooLong source = HeldMore source input_limit × HasNoFault source
HasNoInput unread.Fault source = HasFaulted source
HasNoInput unread.OutOfMemory source = HasNoFault source

-- the status and the line of a call whose source gave no input
abbrev pub TellsNoInput : ReadStop → Told → Type 0
TellsNoInput unread.TooLong told = IsStopped 3 too_long_line told
TellsNoInput unread.Fault told = IsStopped 7 read_fault_line told
TellsNoInput unread.OutOfMemory told = IsStopped 12 want_of_memory_line told

-- how a call that reads its source ends. `Means` says for each text which answers are right
pub data TextOutcome (Means : List ℕ → Saying → Type 0) (told : Told) : Type 0 where
  -- the text was read and an answer about it was told, whole or cut off; or memory was wanting, while the source was read or later. If
  -- memory was wanting, nothing is said of the source
  Ends : Outcome (IsAboutSource Means told.source) told → TextOutcome Means told
  TooLong : IsTooLong told → TextOutcome Means told
  ReadFault : IsReadFault told → TextOutcome Means told

-- ---- calls that read nothing: the source is untouched

pub record SilentOutcome (Right : Saying → Type 0) (told : Told) : Type 0 where
  pub source : IsUntouched told.source
  pub ends : Outcome Right told
