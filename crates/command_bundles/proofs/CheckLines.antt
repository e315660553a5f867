-- Lines of a check, written field by field.
use Rattle.std.proofs.Common.{◌≡◌, ◌∙◌, ℕ, List, [], ◌∷◌, ◌++◌, ap, append_assoc}
use Rattle.define_lines.specs.Lines.{line_feed, line_of, tab, tabbed, text_of}
use Rattle.define_lines.proofs.LineLemmas.{line_written}

two_and_more : (word a b : List ℕ) (rest : List (List ℕ)) → (((word ++ (tab ∷ a)) ++ (tab ∷ b)) ++ tabbed rest) ++ line_feed ∷ [] ≡ text_of (line_of (word ∷ a ∷ b ∷ rest) ∷ [])
two_and_more word a b rest =
    let regrouped : ((word ++ (tab ∷ a)) ++ (tab ∷ b)) ++ tabbed rest ≡ word ++ tabbed (a ∷ b ∷ rest) = simp (append_assoc) in
    ap (λ text. text ++ line_feed ∷ []) regrouped ∙ line_written word (a ∷ b ∷ rest)

-- writing `word`, the fields `a` and `b`, the fields of `rest` and LF in turn makes the line of these fields
pub written_in_turn : (word a b : List ℕ) (rest : List (List ℕ)) (t0 t1 t2 t3 t4 : List ℕ) →
    t0 ≡ word → t1 ≡ t0 ++ (tab ∷ a) → t2 ≡ t1 ++ (tab ∷ b) → t3 ≡ t2 ++ tabbed rest → t4 ≡ t3 ++ line_feed ∷ [] →
    t4 ≡ text_of (line_of (word ∷ a ∷ b ∷ rest) ∷ [])
written_in_turn word a b rest t0 t1 t2 t3 t4 e0 e1 e2 e3 e4 = let whole = two_and_more word a b rest in cc
