use Rattle.std.proofs.Common.{◌≡◌, [], ◌∷◌, ◌++◌, ap, ◌∙◌}
use Rattle.define_lines.specs.Lines.{text_of}
use Rattle.define_lines.proofs.LineLemmas.{text_of-append}
use Rattle.define_proofs.specs.ProofText.{close_line}
use Rattle.define_covers.specs.CoverReading.{read_cover}
use Rattle.define_covers.specs.CoverText.{cover_spelling, lines_before_close}
use Rattle.define_covers.proofs.ReadAgain.{spelled_is_read}
use Rattle.cover_text.proofs.writing.write_cover.Goals as goal

pub returns-clause-spelled : goal.returns-clause-spelled
returns-clause-spelled c =
    let cover = c.args.cover.now in
    let lines = lines_before_close cover.bundle cover.trees in
    let before : c.push_before_close.new.text.items ≡ text_of lines = c.in_ok-push_before_close.ensures ∙ ap (λ text. text ++ text_of lines) c.new-text.ensures.items in
    c.in_ok-push_line.ensures.whole ∙ ap (λ text. text ++ text_of (close_line ∷ [])) before ∙ text_of-append [] lines (close_line ∷ [])

pub returns-clause-read : goal.returns-clause-read
returns-clause-read c =
    let cover = c.args.cover.now in
    let lines = lines_before_close cover.bundle cover.trees in
    let before : c.push_before_close.new.text.items ≡ text_of lines = c.in_ok-push_before_close.ensures ∙ ap (λ text. text ++ text_of lines) c.new-text.ensures.items in
    let spelled : c.push_line.new.text.items ≡ cover_spelling cover =
    c.in_ok-push_line.ensures.whole ∙ ap (λ text. text ++ text_of (close_line ∷ [])) before ∙ text_of-append [] lines (close_line ∷ []) in
    ap read_cover spelled ∙ spelled_is_read cover c.facts.ensures
