use Rattle.std.proofs.Common.{ap, refl}
use Rattle.std.specs.Prelude.{◌≡◌, ◌≢◌, Ok, Err, MatchResult}
use Rattle.define_proofs.specs.ProofVerdict.{Proof}
use Rattle.define_proofs.specs.ProofText.{IsProof, proof_spelling}
use Rattle.define_proofs.specs.ProofReading.{read_proof}
use Rattle.define_proofs.proofs.ReadAgain.{spelled_is_read}
use Rattle.define_proofs.proofs.Spelled.{read_is_spelled}
use Rattle.define_proofs.proofs.proof_or_fault.Goals as goal

pub returns : goal.returns
returns c bytes =
    (elim (read_proof bytes) as (λ r. read_proof bytes ≡ r → MatchResult r (λ proof. IsProof proof × (bytes ≡ proof_spelling proof)) (λ fault. (proof : Proof) → IsProof proof → bytes ≢ proof_spelling proof)) [
      | Ok proof ↦ λ e. read_is_spelled bytes proof e
      | Err fault ↦ λ e proof is same. let again = spelled_is_read proof is in let both = ap read_proof same in cc
    ]) refl
