-- The verdict for a refusal, or for none. The contracts of `Verdict` cite it, and so do proofs of `cert_check` and `check_proofs`.
use Rattle.std.specs.Prelude.{Bool, true, false, Option, Some, None}
use Rattle.define_checks.specs.Reasons.{Refusal, Refused, Valid, Verdict}

-- refused with this refusal, or valid if there is none
abbrev pub verdict_of : Option Refusal → Verdict
verdict_of None = Valid
verdict_of (Some refusal) = Refused refusal

-- the verdict is valid
abbrev pub holds : Verdict → Bool
holds Valid = true
holds (Refused refusal) = false
