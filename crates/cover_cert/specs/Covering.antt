-- The answer of `cover`. Builds on Visits of `define_checks`. The promise of `cover` cites it.
use Rattle.std.specs.Prelude.{◌≡◌, ℕ, Result, Ok, Err}
use Rattle.define_checks.specs.Reasons.{Refusal, Valid, Verdict}
use Rattle.define_checks.specs.Reasons as check
use Rattle.define_covers.specs.Covers as covers
use Rattle.cert_check.specs.declared.stops.CheckStop.{CheckStop}
use Rattle.cert_check.specs.declared.stops.CheckStop.TheVariants.{NodesSpent, OutOfMemory}
use Rattle.cover_cert.specs.declared.making.Covered.{Covered}
use Rattle.cover_cert.specs.declared.making.Covered.TheVariants.{Cover, Refused}

-- the answer is this refusal
abbrev pub refuses : Covered → Refusal → Type 0
refuses (Cover cover) refusal = ⊥
refuses (Refused stage reason who) refusal = record { stage = stage; reason = reason; who = who.items } ≡ refusal

-- the answer agrees with `wanted`, the answer of a check: there is a cover exactly if the check's verdict is valid, and a refusal is the
-- check's. Memory may run out at any time
abbrev pub AnswersCheck : Result Verdict ℕ → Result Covered CheckStop → Type 0
AnswersCheck wanted (Ok (Cover cover)) = wanted ≡ Ok Valid
AnswersCheck wanted (Ok (Refused stage reason who)) = wanted ≡ Ok (check.Refused (record { stage = stage; reason = reason; who = who.items }))
AnswersCheck wanted (Err (NodesSpent stage)) = wanted ≡ Err stage
AnswersCheck wanted (Err OutOfMemory) = Unit {0}

-- if the answer is a cover, this holds of it
abbrev pub IfCover : Covered → (covers.Cover → Type 0) → Type 0
IfCover (Cover cover) holds = holds cover
IfCover (Refused stage reason who) holds = Unit {0}
