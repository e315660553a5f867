-- A template that is filled byte by byte. `start` is the text with the whole template filled; `before` is the text written before byte `i`
-- of the template, and `after` the text with what this byte adds.
use Rattle.std.proofs.Common.{◌≡◌, ℕ, suc, ◌+◌, ◌<◌, ◌≤◌, cond, List, [], ◌∷◌, ◌++◌, append_assoc, drop, drop-cons, get_or, length, map, refl, sym, ap, ◌∙◌, arith}
use Rattle.std.proofs.lemmas.Bool.{ne_eqb}
use Rattle.std.proofs.lemmas.List.{drop_all, drop-map}
use Rattle.bundle_page.specs.Markup.{filled}

filled_byte : (byte : ℕ) (template : List ℕ) (values : List (List ℕ)) → (byte ≡ 126 → ⊥) → filled (byte ∷ template) values ≡ byte ∷ filled template values
unfolding filled
filled_byte byte template [] other = ap (λ b. cond b (filled template []) (byte ∷ filled template [])) (ne_eqb byte 126 other)
filled_byte byte template (value ∷ values) other =
    ap (λ b. cond b (value ++ filled template values) (byte ∷ filled template (value ∷ values))) (ne_eqb byte 126 other)

filled_value : (template value : List ℕ) (values : List (List ℕ)) → filled (126 ∷ template) (value ∷ values) ≡ value ++ filled template values
unfolding filled
filled_value template value values = refl

filled_none : (template : List ℕ) → filled (126 ∷ template) [] ≡ filled template []
unfolding filled
filled_none template = refl

pub filled_end : (values : List (List ℕ)) → filled [] values ≡ []
unfolding filled
filled_end values = refl

module _ (start before after template : List ℕ) (i byte : ℕ) (inside : i < length template) (is : get_or template i 0 ≡ byte) where
  split : drop i template ≡ byte ∷ drop (i + 1) template
  split = let e : suc i ≡ i + 1 = omega arith in drop-cons template i 0 inside ∙ ap (λ b. b ∷ drop (suc i) template) is ∙ ap (λ k. byte ∷ drop k template) e

  pub byte_put : (values : List (List ℕ)) → (byte ≡ 126 → ⊥) → before ++ filled (drop i template) values ≡ start → after ≡ before ++ byte ∷ [] →
      after ++ filled (drop (i + 1) template) values ≡ start
  byte_put values other so_far added =
      ap (λ text. text ++ filled (drop (i + 1) template) values) added ∙ append_assoc before (byte ∷ []) (filled (drop (i + 1) template) values)
      ∙ ap (λ rest. before ++ rest) (sym (ap (λ t. filled t values) split ∙ filled_byte byte (drop (i + 1) template) values other)) ∙ so_far

  pub value_put : {X : Type 0} (f : X → List ℕ) (xs : List X) (next : ℕ) (d : X) → byte ≡ 126 → next < length xs → before ++ filled (drop i template) (drop next (map f xs)) ≡ start →
      after ≡ before ++ f (get_or xs next d) → after ++ filled (drop (i + 1) template) (drop (next + 1) (map f xs)) ≡ start
  value_put {X} f xs next d place here so_far added =
      let rest = drop (i + 1) template in
      let e : suc next ≡ next + 1 = omega arith in
      let values : drop next (map f xs) ≡ f (get_or xs next d) ∷ drop (next + 1) (map f xs) =
      drop-map f next xs ∙ ap (map f) (drop-cons xs next d here) ∙ ap (λ k. f (get_or xs next d) ∷ map f (drop k xs)) e ∙ ap (λ later. f (get_or xs next d) ∷ later) (sym (drop-map f (next + 1) xs)) in
      ap (λ text. text ++ filled rest (drop (next + 1) (map f xs))) added ∙ append_assoc before (f (get_or xs next d)) (filled rest (drop (next + 1) (map f xs)))
      ∙ ap (λ more. before ++ more)
      (sym (ap (λ t. filled t (drop next (map f xs))) (split ∙ ap (λ b. b ∷ rest) place) ∙ ap (filled (126 ∷ rest)) values
      ∙ filled_value rest (f (get_or xs next d)) (drop (next + 1) (map f xs)))) ∙ so_far

  pub none_put : (values : List (List ℕ)) (next : ℕ) → byte ≡ 126 → length values ≤ next → before ++ filled (drop i template) (drop next values) ≡ start → before ++ filled (drop (i + 1) template) (drop next values) ≡ start
  none_put values next place none so_far =
      let rest = drop (i + 1) template in
      let empty : drop next values ≡ [] = drop_all next values none in
      ap (λ later. before ++ filled rest later) empty
      ∙ ap (λ more. before ++ more)
      (sym (ap (λ t. filled t (drop next values)) (split ∙ ap (λ b. b ∷ rest) place) ∙ ap (filled (126 ∷ rest)) empty ∙ filled_none rest)) ∙ so_far
