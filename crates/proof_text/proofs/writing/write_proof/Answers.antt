use Rattle.std.proofs.Common.{◌≡◌, [], ◌∷◌, ◌++◌, ap, ◌∙◌}
use Rattle.define_lines.specs.Lines.{text_of}
use Rattle.define_proofs.specs.ProofReading.{read_proof}
use Rattle.define_proofs.specs.ProofText.{close_line, lines_before_close, proof_spelling}
use Rattle.define_proofs.proofs.ReadAgain.{spelled_is_read}
use Rattle.proof_text.specs.Parts.{seen}
use Rattle.proof_text.proofs.writing.write_proof.Goals as goal
use Rattle.define_lines.proofs.LineLemmas.{text_of-append}

pub returns-clause-read : goal.returns-clause-read
returns-clause-read c =
    let proof = c.args.proof.now in
    let before : c.push_parts.new.text.items ≡ text_of (lines_before_close proof) =
    c.in_ok-push_parts.ensures ∙ ap (λ text. text ++ text_of (lines_before_close (seen c.parts.result.now))) c.new-text.ensures.items ∙ ap (λ p. text_of (lines_before_close p)) c.parts.ensures in
    let spelled : c.push_line.new.text.items ≡ proof_spelling proof =
    c.in_ok-push_line.ensures.whole ∙ ap (λ text. text ++ text_of (close_line ∷ [])) before ∙ text_of-append [] (lines_before_close proof) (close_line ∷ []) in
    ap read_proof spelled ∙ spelled_is_read proof c.facts.ensures
