-- Lemmas for two loops over a list: one looks for the first element that passes a test, and one for the first that equals an earlier
-- element. They say what the next element adds to what is known of the elements before it.
use Rattle.std.proofs.Common.{◌≡◌, ℕ, zero, suc, ◌+◌, ◌<◌, Bool, true, false, cond, ◌||◌, List, [], ◌∷◌, length, map, get_or, take, Option, Some, None, refl, sym, ap, ◌∙◌, arith}
use Rattle.std.specs.Prelude.{bytes_eq}
use Rattle.std.specs.List.{find, list_any}
use Rattle.define_pools.specs.Lists.{includes_list}
use Rattle.define_checks.specs.Reasons.{first_repeated}

none_found : {X : Type 0} (b : Bool) (x : X) (rest : Option X) → cond b (Some x) rest ≡ None → (b ≡ false) × (rest ≡ None)
none_found true x rest e = absurd (differ e)
  where
    differ : Some x ≡ None → ⊥
    differ e = cc
none_found false x rest e = (refl, e)

module _ {A X : Type 0} (p : X → Bool) (f : A → X) where
  pub found_here : (rows : List A) (j : ℕ) (row : A) → j < length rows → row ≡ get_or rows j row → find p (map f (take j rows)) ≡ None → p (f row) ≡ true → Some (f row) ≡ find p (map f rows)
  found_here [] j row l e none passes = absurd (omega arith)
  found_here (r ∷ rows) zero row l e none passes =
      let same = ap f e in sym (ap (λ b. cond b (Some (f r)) (find p (map f rows))) (ap p (sym same) ∙ passes) ∙ ap Some (sym same))
  found_here (r ∷ rows) (suc j) row l e none passes =
      let parts = none_found (p (f r)) (f r) (find p (map f (take j rows))) none in
      found_here rows j row (omega arith) e parts.1 passes ∙ sym (ap (λ b. cond b (Some (f r)) (find p (map f rows))) parts.0)

  pub found_later : (rows : List A) (j : ℕ) (row : A) → j < length rows → row ≡ get_or rows j row → find p (map f (take j rows)) ≡ None → p (f row) ≡ false → find p (map f (take (j + 1) rows)) ≡ None
  found_later [] j row l e none fails = absurd (omega arith)
  found_later (r ∷ rows) zero row l e none fails = ap (λ b. cond b (Some (f r)) None) (ap p (sym (ap f e)) ∙ fails)
  found_later (r ∷ rows) (suc j) row l e none fails =
      let next : suc j + 1 ≡ suc (j + 1) = omega arith in
      let parts = none_found (p (f r)) (f r) (find p (map f (take j rows))) none in
      rw next (ap (λ b. cond b (Some (f r)) (find p (map f (take (j + 1) rows)))) parts.0 ∙ found_later rows j row (omega arith) e parts.1 fails)

moved : (a b c : Bool) → ((a || b) || c) ≡ (b || (a || c))
moved true true c = refl
moved true false c = refl
moved false true c = refl
moved false false c = refl

module _ {A : Type 0} (f : A → List ℕ) where
  -- `xs` equals the list `f row` of one of `rows`
  abbrev pub came : List A → List ℕ → Bool
  came rows xs = list_any (λ row. bytes_eq xs (f row)) rows

  pub again_here : (earlier : List (List ℕ)) (rows : List A) (j : ℕ) (row : A) → j < length rows → row ≡ get_or rows j row → first_repeated earlier (map f (take j rows)) ≡ None →
      (came (take j rows) (f row) || includes_list earlier (f row)) ≡ true → Some (f row) ≡ first_repeated earlier (map f rows)
  again_here earlier [] j row l e none before = absurd (omega arith)
  again_here earlier (r ∷ rows) zero row l e none before =
      let same = ap f e in sym (ap (λ b. cond b (Some (f r)) (first_repeated (f r ∷ earlier) (map f rows))) (ap (includes_list earlier) (sym same) ∙ before) ∙ ap Some (sym same))
  again_here earlier (r ∷ rows) (suc j) row l e none before =
      let parts = none_found (includes_list earlier (f r)) (f r) (first_repeated (f r ∷ earlier) (map f (take j rows))) none in
      again_here (f r ∷ earlier) rows j row (omega arith) e parts.1 (sym (moved (bytes_eq (f row) (f r)) (came (take j rows) (f row)) (includes_list earlier (f row))) ∙ before)
      ∙ sym (ap (λ b. cond b (Some (f r)) (first_repeated (f r ∷ earlier) (map f rows))) parts.0)

  pub again_later : (earlier : List (List ℕ)) (rows : List A) (j : ℕ) (row : A) → j < length rows → row ≡ get_or rows j row → first_repeated earlier (map f (take j rows)) ≡ None →
      (came (take j rows) (f row) || includes_list earlier (f row)) ≡ false → first_repeated earlier (map f (take (j + 1) rows)) ≡ None
  again_later earlier [] j row l e none before = absurd (omega arith)
  again_later earlier (r ∷ rows) zero row l e none before = ap (λ b. cond b (Some (f r)) None) (ap (includes_list earlier) (sym (ap f e)) ∙ before)
  again_later earlier (r ∷ rows) (suc j) row l e none before =
      let next : suc j + 1 ≡ suc (j + 1) = omega arith in
      let parts = none_found (includes_list earlier (f r)) (f r) (first_repeated (f r ∷ earlier) (map f (take j rows))) none in
      rw next (ap (λ b. cond b (Some (f r)) (first_repeated (f r ∷ earlier) (map f (take (j + 1) rows)))) parts.0
      ∙ again_later (f r ∷ earlier) rows j row (omega arith) e parts.1 (sym (moved (bytes_eq (f row) (f r)) (came (take j rows) (f row)) (includes_list earlier (f row))) ∙ before))
