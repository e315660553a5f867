-- Whether a number comes twice in a list, of which a loop has read a part.
use Rattle.std.proofs.Common.{◌≡◌, ℕ, zero, suc, ◌+◌, ◌<◌, Bool, true, false, not, ◌&&◌, ◌||◌, eqb, List, [], ◌∷◌, length, get_or, set, take, refl, sym, ap, ap₂, ◌∙◌, ⊎_elim, arith}
use Rattle.std.proofs.lemmas.Bool.{and_parts, cases_eq, eqb-true, eq-eqb, ne_eqb, false≢true, or_parts}
use Rattle.std.proofs.lemmas.List.{get_or-set_same, get_or-set_other}
use Rattle.std.proofs.lemmas.List.Folds.{list_any_more}
use Rattle.std.proofs.Math.Bool.{or-false, or-true, and-false}
use Rattle.define_pools.specs.Lists.{includes}
use Rattle.check_reasons.specs.Households.{none_twice}

has_at : (xs : List ℕ) (j : ℕ) → j < length xs → includes xs (get_or xs j 0) ≡ true
has_at [] j l = absurd (omega arith)
has_at (x ∷ xs) zero l = ap (λ b. b || includes xs x) (eq-eqb x x refl)
has_at (x ∷ xs) (suc j) l = ap (λ b. eqb x (get_or xs j 0) || b) (has_at xs j (omega arith)) ∙ or-true (eqb x (get_or xs j 0))

-- If a number equals an earlier one of the list, some number comes twice.
pub comes_twice : (xs : List ℕ) (j : ℕ) → j < length xs → includes (take j xs) (get_or xs j 0) ≡ true → none_twice xs ≡ false
comes_twice [] j l e = absurd (omega arith)
comes_twice (x ∷ xs) zero l e = absurd (false≢true e)
comes_twice (x ∷ xs) (suc j) l e = by (eqb x (get_or xs j 0)) refl e (comes_twice xs j (omega arith))
  where
    by : (b : Bool) → eqb x (get_or xs j 0) ≡ b → (b || includes (take j xs) (get_or xs j 0)) ≡ true → (includes (take j xs) (get_or xs j 0) ≡ true → none_twice xs ≡ false) →
        (not (includes xs x) && none_twice xs) ≡ false
    by true same e rest =
        let is = eqb-true x (get_or xs j 0) same in
        ap (λ b. not b && none_twice xs) (ap (includes xs) is ∙ has_at xs j (omega arith))
    by false other e rest = ap (λ b. not (includes xs x) && b) (rest e) ∙ and-false (not (includes xs x))

-- If number `j` equals no earlier one, and none comes twice among the first `j`, none comes twice among the first `j + 1`.
pub comes_once : (xs : List ℕ) (j : ℕ) → j < length xs → includes (take j xs) (get_or xs j 0) ≡ false → none_twice (take j xs) ≡ true → none_twice (take (j + 1) xs) ≡ true
comes_once [] j l e once = absurd (omega arith)
comes_once (x ∷ xs) zero l e once = refl
comes_once (x ∷ xs) (suc j) l e once =
    let next : suc j + 1 ≡ suc (j + 1) = omega arith in
    let y = get_or xs j 0 in
    let apart = or_parts (eqb x y) (includes (take j xs) y) e in
    let parts = and_parts (not (includes (take j xs) x)) (none_twice (take j xs)) once in
    let back : eqb y x ≡ false = ne_eqb y x (λ same. false≢true (sym apart.0 ∙ eq-eqb x y (sym same))) in
    let more : includes (take (j + 1) xs) x ≡ includes (take j xs) x = list_any_more (λ z. eqb z x) xs j 0 (omega arith) ∙ ap (λ b. includes (take j xs) x || b) back ∙ or-false (includes (take j xs) x) in
    rw next (ap₂ (λ a b. a && b) (ap not more ∙ parts.0) (comes_once xs j (omega arith) apart.1 parts.1))

-- If exactly the first `j` numbers of the list are marked, then after number `j` is marked too, exactly the first `j + 1` are.
pub marked_more : (xs : List ℕ) (marks : List Bool) (j h : ℕ) → j < length xs → h < length marks → ((k : ℕ) → k < length marks → get_or marks k false ≡ includes (take j xs) k) →
    get_or (set marks (get_or xs j 0) true) h false ≡ includes (take (j + 1) xs) h
marked_more xs marks j h l below marked =
    let y = get_or xs j 0 in
    let more : includes (take (j + 1) xs) h ≡ (includes (take j xs) h || eqb y h) = list_any_more (λ z. eqb z h) xs j 0 l in
    ⊎_elim
    (λ (same : h ≡ y). ap (λ k. get_or (set marks y true) k false) same ∙ get_or-set_same marks y true false (omega (arith, same))
    ∙ sym (more ∙ ap (λ b. includes (take j xs) h || b) (eq-eqb y h (sym same)) ∙ or-true (includes (take j xs) h)))
    (λ (apart : h ≡ y → ⊥). get_or-set_other marks y h true false apart ∙ marked h below
    ∙ sym (more ∙ ap (λ b. includes (take j xs) h || b) (ne_eqb y h (λ e. apart (sym e))) ∙ or-false (includes (take j xs) h)))
    (cases_eq h y)
