use Rattle.std.proofs.Common.{◌≡◌, [], ◌∷◌, ◌++◌, ap, ◌∙◌}
use Rattle.std.proofs.lemmas.Result.{on_ok_weaker}
use Rattle.define_lines.specs.Lines.{text_of}
use Rattle.define_bundles.specs.BundleText.{pool_lines}
use Rattle.define_proofs.specs.ProofText.{none_line, proof_line, tree_lines}
use Rattle.proof_text.proofs.Texts.{no_panel_text}
use Rattle.proof_text.proofs.writing.push_no_panel.Goals as goal

pub returns : goal.returns
returns c =
    let text = c.args.text.now.items in
    let pool = c.args.pool.now in
    let lines = c.args.lines.now in
    let first : c.push_line.new.text.items ≡ text ++ text_of (proof_line ∷ []) = c.in_ok-push_line.ensures.whole in
    let second : c.push_pool.new.text.items ≡ (text ++ text_of (proof_line ∷ [])) ++ text_of (pool_lines pool) =
    c.in_ok-push_pool.ensures ∙ ap (λ before. before ++ text_of (pool_lines pool)) first in
    let third : c.push_line-2.new.text.items ≡ ((text ++ text_of (proof_line ∷ [])) ++ text_of (pool_lines pool)) ++ text_of (none_line ∷ []) =
    c.in_ok-push_line-2.ensures.whole ∙ ap (λ before. before ++ text_of (none_line ∷ [])) second in
    on_ok_weaker c.push_tree.result (λ e. e ∙ (ap (λ before. before ++ text_of (tree_lines 0 lines)) third ∙ no_panel_text text pool lines)) c.push_tree.ensures
