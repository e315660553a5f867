-- What `check` answers for each verdict on a certificate, and if there is no verdict. The contracts of `verdict_answer` and
-- `check_stop_answer` in src/check.rt cite it.
use Rattle.std.specs.Prelude.{◌≡◌, ℕ}
use Rattle.define_checks.specs.Reasons.{Refused, Valid, Verdict}
use Rattle.cert_check.specs.declared.stops.CheckStop.{CheckStop}
use Rattle.cert_check.specs.declared.stops.CheckStop.TheVariants.{NodesSpent, OutOfMemory}
use Rattle.command_shell.specs.declared.status.Printed.TheVariants as printed
use Rattle.command_shell.specs.declared.status.Cause.TheVariants as cause
use Rattle.command_shell.specs.Answers.{Saying, Prints, Stops}
use Rattle.command_meanings.specs.Check.{refused_line, visits_spent_line, valid_line}

abbrev pub TellsVerdict : Verdict → Saying → Type 0
TellsVerdict Valid answer = answer ≡ Prints printed.Done valid_line
TellsVerdict (Refused refusal) answer = answer ≡ Prints printed.Refused (refused_line refusal)

-- the answer is the line for this stop. If memory runs out there is no answer: the command returns an error
abbrev pub TellsStop : ℕ → CheckStop → Saying → Type 0
TellsStop nodes (NodesSpent stage) answer = answer ≡ Stops cause.Spent (visits_spent_line nodes stage)
TellsStop nodes OutOfMemory answer = ⊥
