use Rattle.std.proofs.Common.{◌≡◌, [], ◌∷◌, ◌++◌, ap, ◌∙◌}
use Rattle.std.proofs.lemmas.Result.{on_ok_weaker}
use Rattle.define_lines.specs.Lines.{text_of}
use Rattle.define_proofs.specs.ProofText.{bundle_lines}
use Rattle.define_covers.specs.CoverText.{cover_line, trees_from}
use Rattle.cover_text.proofs.Texts.{cover_text}
use Rattle.cover_text.proofs.writing.push_before_close.Goals as goal

pub returns : goal.returns
returns c =
    let text = c.args.text.now.items in
    let bundle = c.args.cover.now.bundle in
    let trees = c.args.cover.now.trees in
    let first : c.push_line.new.text.items ≡ text ++ text_of (cover_line ∷ []) = c.in_ok-push_line.ensures.whole in
    let second : c.push_bundle.new.text.items ≡ (text ++ text_of (cover_line ∷ [])) ++ text_of (bundle_lines bundle.pool bundle.answer) =
    c.in_ok-push_bundle.ensures ∙ ap (λ before. before ++ text_of (bundle_lines c.bundle.result.now.pool c.bundle.result.now.answer)) first
    ∙ ap (λ b. (text ++ text_of (cover_line ∷ [])) ++ text_of (bundle_lines b.pool b.answer)) c.bundle.ensures in
    on_ok_weaker c.push_trees.result
    (λ e. e ∙ (ap (λ before. before ++ text_of (trees_from 1 c.trees.result.now)) second
    ∙ ap (λ ts. ((text ++ text_of (cover_line ∷ [])) ++ text_of (bundle_lines bundle.pool bundle.answer)) ++ text_of (trees_from 1 ts)) c.trees.ensures
    ∙ cover_text text bundle trees)) c.push_trees.ensures
