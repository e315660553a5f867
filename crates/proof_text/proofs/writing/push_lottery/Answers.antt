use Rattle.std.proofs.Common.{◌≡◌, [], ◌∷◌, ◌++◌, ap, ◌∙◌}
use Rattle.std.proofs.lemmas.Result.{on_ok_weaker}
use Rattle.define_lines.specs.Lines.{text_of}
use Rattle.define_proofs.specs.ProofText.{bundle_lines, proof_line, trees_from}
use Rattle.proof_text.proofs.Texts.{lottery_text}
use Rattle.proof_text.proofs.writing.push_lottery.Goals as goal

pub returns : goal.returns
returns c =
    let text = c.args.text.now.items in
    let bundle = c.args.bundle.now in
    let trees = c.args.trees.now in
    let first : c.push_line.new.text.items ≡ text ++ text_of (proof_line ∷ []) = c.in_ok-push_line.ensures.whole in
    let second : c.push_bundle.new.text.items ≡ (text ++ text_of (proof_line ∷ [])) ++ text_of (bundle_lines bundle.pool bundle.answer) =
    c.in_ok-push_bundle.ensures ∙ ap (λ before. before ++ text_of (bundle_lines bundle.pool bundle.answer)) first in
    on_ok_weaker c.push_trees.result (λ e. e ∙ (ap (λ before. before ++ text_of (trees_from 1 trees)) second ∙ lottery_text text bundle.pool bundle.answer trees)) c.push_trees.ensures
