-- What `verify` answers for each verdict on a proof.
use Rattle.std.specs.Prelude.{◌≡◌}
use Rattle.define_checks.specs.Reasons.{Refused, Valid, Verdict}
use Rattle.define_proofs.specs.ProofVerdict.{Proof}
use Rattle.command_shell.specs.declared.status.Printed.TheVariants as printed
use Rattle.command_shell.specs.Answers.{Saying, Prints}
use Rattle.command_meanings.specs.Check.{refused_line}
use Rattle.command_meanings.specs.Verify.{shown_line}

abbrev pub TellsVerdict : Proof → Verdict → Saying → Type 0
TellsVerdict proof Valid answer = answer ≡ Prints printed.Done (shown_line proof)
TellsVerdict proof (Refused refusal) answer = answer ≡ Prints printed.Refused (refused_line refusal)
