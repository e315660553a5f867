-- If an answer is right and is told, whole or cut off, the call ends as `Outcome` says.
use Rattle.std.proofs.Common.{◌≡◌, ⊎_elim}
use Rattle.command_shell.specs.Told.{Told}
use Rattle.command_shell.specs.Answers.{Saying, Prints, Stops, printed_number}
use Rattle.command_shell.specs.Outcomes.{Answered, Ends, HasNoInput, IsCutOff, IsPrinted, IsToldOrCutOff, Outcome, ReadFault, TellsNoInput, TextOutcome, TooLong, WantOfMemory, WriteFault}
use Rattle.outside.specs.declared.reading.ReadStop.{ReadStop}
use Rattle.outside.specs.declared.reading.ReadStop.TheVariants as unread
use Rattle.std.specs.Prelude.{List, ℕ}

pub answered : (Right : Saying → Type 0) (told : Told) (answer : Saying) → Right answer → IsToldOrCutOff answer told → Outcome Right told
answered Right told (Prints printed text) right it =
    ⊎_elim (λ (whole : IsPrinted (printed_number printed) text told). Answered (Prints printed text) right whole)
    (λ (cut : IsCutOff text told). WriteFault printed text right cut) it
answered Right told (Stops cause line) right it = Answered (Stops cause line) right it

-- If the source gave no input, and the call tells why, the call ends as `TextOutcome` says.
pub no_input : (Means : List ℕ → Saying → Type 0) (told : Told) (stop : ReadStop) → HasNoInput stop told.source → TellsNoInput stop told → TextOutcome Means told
no_input Means told unread.TooLong (held, no_fault) stopped = TooLong (record { held = held; no_fault = no_fault; stopped = stopped })
no_input Means told unread.Fault faulted stopped = ReadFault (record { faulted = faulted; stopped = stopped })
no_input Means told unread.OutOfMemory no_fault stopped = Ends (WantOfMemory stopped)
