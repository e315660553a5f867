-- Searches of a list: by `find`, and by `position`.
use Rattle.std.proofs.Common.{◌≡◌, ◌≢◌, ◌⊎◌, inl, inr, ⊎_elim, refl, ℕ, zero, suc, ◌+◌, ◌<◌, ◌≤◌, Bool, true, false, cond, List, [], ◌∷◌, Some, None, length, get_or, sym, arith, ap, ap₂, ◌∙◌, subst}
use Rattle.std.specs.List.{AllByRecursion, find, position, position_or_len, range_with_len}
use Rattle.std.proofs.lemmas.Bool.{cases_eq, cases_lt, lt-ltb}
use Rattle.std.proofs.lemmas.List.Sums.{fails_before_first}

-- an element that is found passes the test
pub find-passes : {X : Type 0} (p : X → Bool) (xs : List X) (x : X) → find p xs ≡ Some x → p x ≡ true
find-passes p [] x e = absurd cc
find-passes p (y ∷ ys) x e = by (p y) refl e (λ f. find-passes p ys x f)
  where
    by : (b : Bool) → p y ≡ b → cond b (Some y) (find p ys) ≡ Some x → (find p ys ≡ Some x → p x ≡ true) → p x ≡ true
    by true t f rest = let same : y ≡ x = cc in ap p (sym same) ∙ t
    by false t f rest = rest f

-- if Q holds of each element, it holds of the element that is found
pub find-each : {X : Type 0} (p : X → Bool) (Q : X → Type 0) (xs : List X) (x : X) → AllByRecursion Q xs → find p xs ≡ Some x → Q x
find-each p Q [] x h e = absurd cc
find-each p Q (y ∷ ys) x h e = by (p y) e (λ f. find-each p Q ys x h.1 f)
  where
    by : (b : Bool) → cond b (Some y) (find p ys) ≡ Some x → (find p ys ≡ Some x → Q x) → Q x
    by true f rest = let same : y ≡ x = cc in subst Q same h.0
    by false f rest = rest f

-- if nothing is found, no element passes
pub find-none : {X : Type 0} (p : X → Bool) (xs : List X) → find p xs ≡ None → AllByRecursion (λ x. p x ≡ false) xs
find-none p [] e = tt
find-none p (y ∷ ys) e = by (p y) refl e (λ f. find-none p ys f)
  where
    by : (b : Bool) → p y ≡ b → cond b (Some y) (find p ys) ≡ None → (find p ys ≡ None → AllByRecursion (λ x. p x ≡ false) ys) → (p y ≡ false) × AllByRecursion (λ x. p x ≡ false) ys
    by true t f rest = absurd cc
    by false t f rest = (t, rest f)

-- if two tests agree on each element, they find the same element
pub find_same : {X : Type 0} (p q : X → Bool) (xs : List X) → AllByRecursion (λ x. p x ≡ q x) xs → find p xs ≡ find q xs
find_same p q [] h = refl
find_same p q (x ∷ xs) h = ap₂ (λ b found. cond b (Some x) found) h.0 (find_same p q xs h.1)

-- if no place is found, no element passes
pub position-None : {X : Type 0} (p : X → Bool) (xs : List X) (k : ℕ) (d : X) → position p xs ≡ None → k < length xs → p (get_or xs k d) ≡ false
position-None p xs k d e l = by (cases_lt (position_or_len p xs) (length xs))
  where
    by : (position_or_len p xs < length xs) ⊎ (length xs ≤ position_or_len p xs) → p (get_or xs k d) ≡ false
    by (inl m) = let found : position p xs ≡ Some (position_or_len p xs) = ap (λ b. cond b (Some (position_or_len p xs)) None) (lt-ltb (position_or_len p xs) (length xs) m) in absurd cc
    by (inr m) = fails_before_first p xs k d (omega arith)

-- if no number of a range passes, the search of the range finds nothing
pub find_range-none : (p : ℕ → Bool) (a n : ℕ) → ((k : ℕ) → a ≤ k → k < a + n → p k ≡ false) → find p (range_with_len a n) ≡ None
find_range-none p a zero h = refl
find_range-none p a (suc n) h =
    ap (λ b. cond b (Some a) (find p (range_with_len (a + 1) n))) (h a (omega arith) (omega arith))
    ∙ find_range-none p (a + 1) n (λ k l m. h k (omega arith) (omega arith))

-- if `b` is in a range and passes, and no number of the range before `b` passes, the search of the range finds `b`
pub find_range-first : (p : ℕ → Bool) (a n b : ℕ) → a ≤ b → b < a + n → p b ≡ true → ((k : ℕ) → a ≤ k → k < b → p k ≡ false) → find p (range_with_len a n) ≡ Some b
find_range-first p a zero b l m e h = absurd (omega arith)
find_range-first p a (suc n) b l m e h = ⊎_elim here (λ o. later o (find_range-first p (a + 1) n b (omega arith) (omega arith) e (λ k l m. h k (omega arith) m))) (cases_eq b a)
  where
    here : b ≡ a → find p (range_with_len a (suc n)) ≡ Some b
    here s = ap (λ t. cond t (Some a) (find p (range_with_len (a + 1) n))) (ap p (sym s) ∙ e) ∙ ap Some (sym s)

    later : b ≢ a → find p (range_with_len (a + 1) n) ≡ Some b → find p (range_with_len a (suc n)) ≡ Some b
    later o rest = ap (λ t. cond t (Some a) (find p (range_with_len (a + 1) n))) (h a (omega arith) (omega arith)) ∙ rest
