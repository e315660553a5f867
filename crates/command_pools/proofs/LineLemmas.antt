-- A line that is written field by field is the line of its fields.
use Rattle.std.proofs.Common.{◌≡◌, ◌∙◌, ℕ, List, [], ◌∷◌, ◌++◌, ap, sym, append_assoc}
use Rattle.std.proofs.lemmas.List.{append-nil}
use Rattle.define_lines.specs.Lines.{line_feed, line_of, tab, tabbed, text_of}
use Rattle.define_lines.proofs.LineLemmas.{line_written}
use Rattle.define_bundles.proofs.PanelLines.{tabbed_then}

four_more : (word : List ℕ) (fields : List (List ℕ)) (a b c d : List ℕ) →
    (((((word ++ tabbed fields) ++ (tab ∷ a)) ++ (tab ∷ b)) ++ (tab ∷ c)) ++ (tab ∷ d)) ++ line_feed ∷ [] ≡ text_of (line_of (word ∷ (fields ++ a ∷ b ∷ c ∷ d ∷ [])) ∷ [])
four_more word fields a b c d =
    let more = a ∷ b ∷ c ∷ d ∷ [] in
    let regrouped : ((((word ++ tabbed fields) ++ (tab ∷ a)) ++ (tab ∷ b)) ++ (tab ∷ c)) ++ (tab ∷ d) ≡ word ++ (tabbed fields ++ tabbed more) = simp (append_assoc, append-nil) in
    ap (λ text. text ++ line_feed ∷ []) (regrouped ∙ ap (λ rest. word ++ rest) (sym (tabbed_then fields more))) ∙ line_written word (fields ++ more)

-- if `word`, the fields of `fields`, the fields `a` to `d` and LF are written in turn, the text is the line of them
pub written_in_turn : (word : List ℕ) (fields : List (List ℕ)) (a b c d : List ℕ) (t0 t1 t2 t3 t4 t5 t6 : List ℕ) →
    t0 ≡ word → t1 ≡ t0 ++ tabbed fields → t2 ≡ t1 ++ (tab ∷ a) → t3 ≡ t2 ++ (tab ∷ b) → t4 ≡ t3 ++ (tab ∷ c) → t5 ≡ t4 ++ (tab ∷ d) → t6 ≡ t5 ++ line_feed ∷ [] →
    t6 ≡ text_of (line_of (word ∷ (fields ++ a ∷ b ∷ c ∷ d ∷ [])) ∷ [])
written_in_turn word fields a b c d t0 t1 t2 t3 t4 t5 t6 e0 e1 e2 e3 e4 e5 e6 = let whole = four_more word fields a b c d in cc
