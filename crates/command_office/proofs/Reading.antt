-- What the status of a call says of the answer that was told.
use Rattle.std.proofs.Common.{◌≡◌, ℕ, List, refl}
use Rattle.command_shell.specs.declared.status.Printed.TheVariants.{Done, NoPanel}
use Rattle.command_shell.specs.declared.status.Cause.TheVariants.{Input}
use Rattle.command_shell.specs.Answers.{Saying, Prints, Stops, status_of}
use Rattle.command_shell.specs.Outcomes.{IsTold}
use Rattle.command_shell.specs.Told.{Told}

-- if an answer was told, the status of the call is that of the answer
pub its_status : (answer : Saying) (told : Told) → IsTold answer told → told.status ≡ status_of answer
its_status (Prints printed text) told is = is.status
its_status (Stops cause line) told is = is.status

-- an answer with status 0 is `Prints Done text`
pub is_done : (answer : Saying) → status_of answer ≡ 0 → (text : List ℕ) × (answer ≡ Prints Done text)
is_done (Prints Done text) s = (text, refl)
is_done (Stops Input line) s = absurd (cc)
is_done answer s = absurd (cc)

-- an answer with status 1 is `Prints NoPanel text`
pub is_no_panel : (answer : Saying) → status_of answer ≡ 1 → (text : List ℕ) × (answer ≡ Prints NoPanel text)
is_no_panel (Prints NoPanel text) s = (text, refl)
is_no_panel (Stops Input line) s = absurd (cc)
is_no_panel answer s = absurd (cc)
