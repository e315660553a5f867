-- Parts of a cover's text, appended one after the other.
use Rattle.std.proofs.Common.{◌≡◌, ℕ, ◌+◌, ◌<◌, List, [], ◌∷◌, ◌++◌, length, get_or, map, take, sym, ◌∙◌, ap, arith, append_assoc}
use Rattle.std.specs.Prelude.{codes}
use Rattle.std.specs.Fmt.{decimal}
use Rattle.std.proofs.lemmas.Grind.{flat_map-append}
use Rattle.std.proofs.lemmas.List.{length-take-le, take_more}
use Rattle.define_lines.specs.Lines.{line_feed, tab, tabbed, text_of}
use Rattle.define_lines.proofs.LineLemmas.{line_written, text_of-append}
use Rattle.define_bundles.specs.BundleText.{Bundle}
use Rattle.define_proofs.specs.ProofText.{bundle_lines}
use Rattle.define_covers.specs.Covers.{FrontLine}
use Rattle.define_covers.specs.CoverText.{cause_fields, cover_line, front_line, lines_before_close, tree_lines, trees_from}
use Rattle.define_covers.proofs.Spelled.{trees-push}

pub one_tree_more : (text : List ℕ) (trees : List (List FrontLine)) (i : ℕ) (d : List FrontLine) → i < length trees →
    (text ++ text_of (trees_from 1 (take i trees))) ++ text_of (tree_lines (i + 1) (get_or trees i d)) ≡ text ++ text_of (trees_from 1 (take (i + 1) trees))
one_tree_more text trees i d l =
    let many : length (take i trees) ≡ i = length-take-le i trees (omega arith) in
    let number : 1 + length (take i trees) ≡ i + 1 = omega arith in
    text_of-append text (trees_from 1 (take i trees)) (tree_lines (i + 1) (get_or trees i d))
    ∙ ap (λ n. text ++ text_of (trees_from 1 (take i trees) ++ tree_lines n (get_or trees i d))) (sym number)
    ∙ ap (λ lines. text ++ text_of lines) (sym (trees-push 1 (take i trees) (get_or trees i d)))
    ∙ ap (λ ts. text ++ text_of (trees_from 1 ts)) (sym (take_more trees i d l))

-- the parts of a cover, appended in turn, are its lines before the last
pub cover_text : (text : List ℕ) (bundle : Bundle) (trees : List (List FrontLine)) →
    ((text ++ text_of (cover_line ∷ [])) ++ text_of (bundle_lines bundle.pool bundle.answer)) ++ text_of (trees_from 1 trees) ≡ text ++ text_of (lines_before_close bundle trees)
cover_text text bundle trees =
    ap (λ before. before ++ text_of (trees_from 1 trees)) (text_of-append text (cover_line ∷ []) (bundle_lines bundle.pool bundle.answer))
    ∙ text_of-append text (cover_line ∷ bundle_lines bundle.pool bundle.answer) (trees_from 1 trees)

-- the word, the cause, the counts and LF, appended in turn, are the line of a front
pub front_text : (text : List ℕ) (line : FrontLine) →
    (((text ++ codes "front") ++ tabbed (cause_fields line.cause)) ++ tabbed (map decimal line.front)) ++ line_feed ∷ [] ≡ text ++ text_of (front_line line ∷ [])
front_text text line =
    let cause = cause_fields line.cause in
    let counts = map decimal line.front in
    let regrouped : (((text ++ codes "front") ++ tabbed cause) ++ tabbed counts) ++ line_feed ∷ [] ≡ text ++ ((codes "front" ++ (tabbed cause ++ tabbed counts)) ++ line_feed ∷ []) = simp append_assoc in
    regrouped
    ∙ ap (λ fields. text ++ ((codes "front" ++ fields) ++ line_feed ∷ [])) (sym (flat_map-append (λ field. tab ∷ field) cause counts))
    ∙ ap (λ all. text ++ all) (line_written (codes "front") (cause ++ counts))
