-- Lists and the elements that they contain.
use Rattle.std.proofs.Common.{◌≡◌, ℕ, zero, suc, Bool, true, false, cond, List, [], ◌∷◌, filter, take, refl, ap, ◌∙◌, subst, arith}
use Rattle.std.specs.Prelude.{Contains, slice_get, Some}
use Rattle.std.specs.List.{AllByRecursion, list_all}
use Rattle.std.proofs.lemmas.Bool.{and_parts}
use Rattle.std.proofs.lemmas.List.Elements.{Contains-append_right}

pub contains_first : {X : Type 0} (x : X) (xs : List X) → Contains (x ∷ xs) x
contains_first x xs = (0, omega arith, refl)

pub contains_later : {X : Type 0} (y x : X) (xs : List X) → Contains xs x → Contains (y ∷ xs) x
contains_later y x xs h = Contains-append_right (y ∷ []) xs x h

-- a list contains its first element
pub first_there : {X : Type 0} (xs : List X) (first : X) → slice_get xs 0 ≡ Some first → Contains xs first
first_there [] first e = absurd cc
first_there (x ∷ xs) first e = let same : x ≡ first = cc in subst (Contains (x ∷ xs)) same (contains_first x xs)

-- if P holds of each element of a list, and the list contains `x`, P holds of `x`
pub each_contains : {X : Type 0} (P : X → Type 0) (xs : List X) (x : X) → AllByRecursion P xs → Contains xs x → P x
each_contains P [] x h (k, l, e) = absurd (omega arith)
each_contains P (y ∷ xs) x h (zero, l, e) = subst P e h.0
each_contains P (y ∷ xs) x h (suc k, l, e) = each_contains P xs x h.1 (k, omega arith, e)

contain_later : {X : Type 0} (x : X) (ys zs : List X) → AllByRecursion (Contains ys) zs → AllByRecursion (Contains (x ∷ ys)) zs
contain_later x ys [] h = tt
contain_later x ys (z ∷ zs) h = (contains_later x z ys h.0, contain_later x ys zs h.1)

pub each_itself : {X : Type 0} (xs : List X) → AllByRecursion (Contains xs) xs
each_itself [] = tt
each_itself (x ∷ xs) = (contains_first x xs, contain_later x xs xs (each_itself xs))

-- an element that passes a test is in the filtered list
pub contains_filter : {X : Type 0} (p : X → Bool) (xs : List X) (x : X) → Contains xs x → p x ≡ true → Contains (filter p xs) x
contains_filter p [] x (k, l, e) passes = absurd (omega arith)
contains_filter p (y ∷ xs) x (zero, l, e) passes =
    let t : p y ≡ true = ap p e ∙ passes in rw t (subst (λ z. Contains (y ∷ filter p xs) z) e (contains_first y (filter p xs)))
contains_filter p (y ∷ xs) x (suc k, l, e) passes = by (p y) (contains_filter p xs x (k, omega arith, e) passes)
  where
    by : (b : Bool) → Contains (filter p xs) x → Contains (cond b (y ∷ filter p xs) (filter p xs)) x
    by true there = contains_later y x (filter p xs) there
    by false there = there

pub filtered : {X : Type 0} (P : X → Type 0) (p : X → Bool) (xs : List X) → AllByRecursion P xs → AllByRecursion (λ x. P x × (p x ≡ true)) (filter p xs)
filtered P p [] h = tt
filtered P p (x ∷ xs) h = by (p x) refl (filtered P p xs h.1)
  where
    by : (b : Bool) → p x ≡ b → AllByRecursion (λ x. P x × (p x ≡ true)) (filter p xs) → AllByRecursion (λ x. P x × (p x ≡ true)) (cond b (x ∷ filter p xs) (filter p xs))
    by true t rest = ((h.0, t), rest)
    by false t rest = rest

-- if all elements pass a test, so do the first k of them
pub first_pass : {X : Type 0} (p : X → Bool) (k : ℕ) (xs : List X) → list_all p xs ≡ true → list_all p (take k xs) ≡ true
first_pass p zero xs h = refl
first_pass p (suc k) [] h = refl
first_pass p (suc k) (x ∷ xs) h = let parts = and_parts (p x) (list_all p xs) h in let here = parts.0 in let rest = first_pass p k xs parts.1 in rw (here, rest) refl
