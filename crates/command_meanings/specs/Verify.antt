-- What `verify` answers: the verdict on a proof.
use Rattle.std.specs.Prelude.{◌≡◌, ℕ, List, [], ◌∷◌, codes}
use Rattle.define_pools.specs.Pool.{panels}
use Rattle.define_checks.specs.Reasons.{Refusal, Refused, Valid}
use Rattle.define_proofs.specs.ProofVerdict.{OfLottery, OfNoPanel, Proof, verdict}
use Rattle.define_proofs.specs.Refusals.{RefusalMeans}
use Rattle.command_shell.specs.Answers.{RightAnswers, no_answer}
use Rattle.command_shell.specs.Lines.{line}
use Rattle.command_meanings.specs.Check.{IsGreatest, refused_line, valid_line}

-- the line of a valid proof that there is no quota panel
abbrev pub valid_none_line : List ℕ
valid_none_line = line (codes "valid" ∷ codes "none" ∷ [])

-- what a valid proof shows: no lottery over the pool's quota panels is above its lottery, or there is no quota panel
abbrev pub Shows : Proof → Type 0
Shows (OfLottery pool its trees) = IsGreatest (record { pool = pool; answer = its })
Shows (OfNoPanel pool lines) = panels pool ≡ []

abbrev pub shown_line : Proof → List ℕ
shown_line (OfLottery pool its trees) = valid_line
shown_line (OfNoPanel pool lines) = valid_none_line

-- the proof is valid, and the text is the line that says so
pub record PrintsShown (proof : Proof) (text : List ℕ) : Type 0 where
  pub valid : verdict proof ≡ Valid
  pub shows : Shows proof
  pub line : text ≡ shown_line proof

-- The proof is refused for the first reason that applies. If the reason is below 11, the certificate doesn't hold; a reason from 11 on is
-- about the trees alone. For 11 and 12 the last number of the line is the number of a line of the proof's text
pub record PrintsProofRefusal (proof : Proof) (text : List ℕ) : Type 0 where
  pub refusal : Refusal
  pub refuses : verdict proof ≡ Refused refusal
  pub means : RefusalMeans proof refusal
  pub line : text ≡ refused_line refusal

abbrev pub VerifyMeans : Proof → RightAnswers
VerifyMeans proof = record no_answer {
  -- status 0
  done = PrintsShown proof;
  -- status 11
  refused = PrintsProofRefusal proof;
}
