use Rattle.std.proofs.Common.{◌≡◌, ℕ, List, ◌∙◌, subst, ap}
use Rattle.std.specs.Prelude.{Result, Ok, Err, IfOk}
use Rattle.define_proofs.specs.ProofVerdict.{Proof}
use Rattle.define_proofs.specs.ProofText.{IsProof, proof_spelling}
use Rattle.define_proofs.specs.ProofReading.{read_proof}
use Rattle.define_proofs.proofs.ReadAgain.{spelled_is_read}
use Rattle.define_proofs.proofs.Spelled.{read_is_spelled}
use Rattle.text_lines.specs.declared.faults.TextStop.{TextStop}
use Rattle.proof_text.specs.Answers.{Reads}
use Rattle.proof_text.proofs.reading.read_proof.Goals as goal

spelled : (bytes : List ℕ) (r : Result Proof TextStop) → Reads (read_proof bytes) r → IfOk r (λ proof. IsProof proof × (bytes ≡ proof_spelling proof))
spelled bytes (Ok proof) h = read_is_spelled bytes proof h
spelled bytes (Err stop) h = tt

pub returns-clause-spelled : goal.returns-clause-spelled
returns-clause-spelled c = spelled c.args.bytes.now c.read_lines.result c.read_lines.ensures

pub returns-clause-read : goal.returns-clause-read
returns-clause-read c proof is same = subst (λ said. Reads said c.read_lines.result) (ap read_proof same ∙ spelled_is_read proof is) c.read_lines.ensures
