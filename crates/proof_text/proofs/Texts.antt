-- Parts of a proof's text, appended one after the other.
use Rattle.std.proofs.Common.{◌≡◌, ℕ, ◌+◌, ◌<◌, List, [], ◌∷◌, ◌++◌, length, get_or, take, sym, ◌∙◌, ap, arith, append_assoc}
use Rattle.std.proofs.lemmas.List.{length-take-le, take_more}
use Rattle.define_lines.specs.Lines.{text_of}
use Rattle.define_pools.specs.Certificate.{Answer}
use Rattle.define_pools.specs.Pool.{Pool}
use Rattle.define_bundles.specs.BundleText.{pool_lines}
use Rattle.define_proofs.specs.ProofVerdict.{OfLottery, OfNoPanel}
use Rattle.define_proofs.specs.TreeLines.{TreeLine}
use Rattle.define_proofs.specs.ProofText.{bundle_lines, lines_before_close, none_line, proof_line, tree_lines, trees_from}
use Rattle.define_proofs.proofs.Spelled.{trees-push}
use Rattle.define_lines.proofs.LineLemmas.{text_of-append}

pub one_tree_more : (text : List ℕ) (trees : List (List TreeLine)) (i : ℕ) (d : List TreeLine) → i < length trees →
    (text ++ text_of (trees_from 1 (take i trees))) ++ text_of (tree_lines (i + 1) (get_or trees i d)) ≡ text ++ text_of (trees_from 1 (take (i + 1) trees))
one_tree_more text trees i d l =
    let many : length (take i trees) ≡ i = length-take-le i trees (omega arith) in
    let number : 1 + length (take i trees) ≡ i + 1 = omega arith in
    text_of-append text (trees_from 1 (take i trees)) (tree_lines (i + 1) (get_or trees i d))
    ∙ ap (λ n. text ++ text_of (trees_from 1 (take i trees) ++ tree_lines n (get_or trees i d))) (sym number)
    ∙ ap (λ lines. text ++ text_of lines) (sym (trees-push 1 (take i trees) (get_or trees i d)))
    ∙ ap (λ ts. text ++ text_of (trees_from 1 ts)) (sym (take_more trees i d l))

-- the parts of a proof that a pool has no quota panel, appended in turn, are its lines before the last
pub no_panel_text : (text : List ℕ) (pool : Pool) (lines : List TreeLine) →
    (((text ++ text_of (proof_line ∷ [])) ++ text_of (pool_lines pool)) ++ text_of (none_line ∷ [])) ++ text_of (tree_lines 0 lines) ≡ text ++ text_of (lines_before_close (OfNoPanel pool lines))
no_panel_text text pool lines =
    ap (λ before. (before ++ text_of (none_line ∷ [])) ++ text_of (tree_lines 0 lines)) (text_of-append text (proof_line ∷ []) (pool_lines pool))
    ∙ ap (λ before. before ++ text_of (tree_lines 0 lines)) (text_of-append text (proof_line ∷ pool_lines pool) (none_line ∷ []))
    ∙ text_of-append text (proof_line ∷ (pool_lines pool ++ none_line ∷ [])) (tree_lines 0 lines)
    ∙ ap (λ behind. text ++ text_of (proof_line ∷ behind)) (append_assoc (pool_lines pool) (none_line ∷ []) (tree_lines 0 lines))

-- the parts of a proof of a lottery, appended in turn, are its lines before the last
pub lottery_text : (text : List ℕ) (pool : Pool) (answer : Answer) (trees : List (List TreeLine)) →
    ((text ++ text_of (proof_line ∷ [])) ++ text_of (bundle_lines pool answer)) ++ text_of (trees_from 1 trees) ≡ text ++ text_of (lines_before_close (OfLottery pool answer trees))
lottery_text text pool answer trees =
    ap (λ before. before ++ text_of (trees_from 1 trees)) (text_of-append text (proof_line ∷ []) (bundle_lines pool answer))
    ∙ text_of-append text (proof_line ∷ bundle_lines pool answer) (trees_from 1 trees)
