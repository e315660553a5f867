-- Tests of the element with a number, in a list whose elements are numbered.
use Rattle.std.proofs.Common.{◌≡◌, ℕ, zero, suc, ◌+◌, ◌≤◌, ◌<◌, Bool, true, false, not, ◌&&◌, ◌||◌, eqb, List, [], ◌∷◌, ◌++◌, map, length, Some, refl, ap, ◌∙◌, arith}
use Rattle.std.specs.Prelude.{slice_get, reverse}
use Rattle.std.specs.List.{enumerate_from, flat_map, list_any}
use Rattle.std.proofs.lemmas.Bool.{eq-eqb, eqb-true, false_from_ne_true}
use Rattle.std.proofs.lemmas.Grind.{reverse_onto}
use Rattle.std.proofs.lemmas.List.{length-reverse}
use Rattle.define_searches.specs.declared.Bounds.{Bounds}
use Rattle.define_searches.specs.Classes.{Classes}
use Rattle.define_searches.specs.Fronts.{value_reachable}

module _ {X : Type 0} (fails : X → Bool) (number : ℕ) where
  -- the element with the number fails
  abbrev pub fails_in : ℕ → List X → Bool
  fails_in n xs = list_any (λ (v, x). eqb v number && fails x) (enumerate_from n xs)

  other : (n : ℕ) → (n ≡ number → ⊥) → eqb n number ≡ false
  other n h = false_from_ne_true (eqb n number) (λ e. h (eqb-true n number e))

  pub none_before : (n : ℕ) (xs : List X) → number < n → fails_in n xs ≡ false
  none_before n [] l = refl
  none_before n (x ∷ xs) l =
      let here = other n (λ e. omega arith) in let rest = none_before (n + 1) xs (omega arith) in rw (here, rest) refl

  pub none_behind : (n : ℕ) (xs : List X) → n + length xs ≤ number → fails_in n xs ≡ false
  none_behind n [] l = refl
  none_behind n (x ∷ xs) l =
      let here = other n (λ e. omega arith) in let rest = none_behind (n + 1) xs (omega arith) in rw (here, rest) refl

  pub one_at : (n k : ℕ) (xs : List X) (x : X) → slice_get xs k ≡ Some x → n + k ≡ number → fails_in n xs ≡ fails x
  one_at n k [] x e f = absurd cc
  one_at n zero (y ∷ xs) x e f =
      let is : y ≡ x = cc in
      let here : eqb n number ≡ true = eq-eqb n number (omega arith) in
      let rest = none_before (n + 1) xs (omega arith) in
      rw (here, rest) (either (fails y) ∙ ap fails is)
    where
      either : (b : Bool) → (b || false) ≡ b
      either true = refl
      either false = refl
  one_at n (suc k) (y ∷ xs) x e f =
      let here = other n (λ g. omega arith) in let rest = one_at (n + 1) k xs x e (omega arith) in rw (here, rest) refl

  pub joined : (n : ℕ) (xs ys : List X) (m : ℕ) → m ≡ n + length xs → fails_in n (xs ++ ys) ≡ (fails_in n xs || fails_in m ys)
  joined n [] ys m e = ap (λ k. fails_in k ys) (let same : n ≡ m = omega arith in same)
  joined n (x ∷ xs) ys m e = let rest = joined (n + 1) xs ys m (omega arith) in rw rest (assoc (eqb n number && fails x) (fails_in (n + 1) xs) (fails_in m ys))
    where
      assoc : (a b c : Bool) → (a || (b || c)) ≡ ((a || b) || c)
      assoc true b c = refl
      assoc false b c = refl

-- ---- the values of categories

-- the values of category `c`, of which the first has the number `first` in its category
values_from : ℕ → ℕ → List Bounds → List (ℕ × (ℕ × Bounds))
values_from c first values = map (λ value. (c, value)) (enumerate_from first values)

value_at : (c first k : ℕ) (values : List Bounds) (bound : Bounds) → slice_get values k ≡ Some bound → slice_get (values_from c first values) k ≡ Some (c, (first + k, bound))
unfolding values_from
value_at c first k [] bound e = absurd cc
value_at c first zero (b ∷ values) bound e = let is : b ≡ bound = cc in let same : first ≡ first + 0 = omega arith in ap (λ b. Some (c, (first, b))) is ∙ ap (λ n. Some (c, (n, bound))) same
value_at c first (suc k) (b ∷ values) bound e = let same : first + 1 + k ≡ first + suc k = omega arith in value_at c (first + 1) k values bound e ∙ ap (λ n. Some (c, (n, bound))) same

many : (c first : ℕ) (values : List Bounds) → length (values_from c first values) ≡ length values
unfolding values_from
many c first [] = refl
many c first (b ∷ values) = ap suc (many c (first + 1) values)

module _ (all : Classes) (front : List ℕ) (number : ℕ) where
  abbrev cannot : ℕ × (ℕ × Bounds) → Bool
  cannot value = not (value_reachable all front value.0 value.1)

  abbrev all_from : ℕ → List (List Bounds) → List (ℕ × (ℕ × Bounds))
  all_from c categories = flat_map (λ (c, values). map (λ value. (c, value)) (enumerate_from 0 values)) (enumerate_from c categories)

  -- the value with the number fails, of the categories of a list, whose first value has the number `n`
  abbrev pub fails_from : ℕ → ℕ → List (List Bounds) → Bool
  fails_from n c categories = fails_in cannot number n (all_from c categories)

  parts : (n c : ℕ) (values : List Bounds) (later : List (List Bounds)) → fails_from n c (values ∷ later) ≡ (fails_in cannot number n (values_from c 0 values) || fails_from (n + length values) (c + 1) later)
  unfolding values_from
  parts n c values later = joined cannot number n (values_from c 0 values) (all_from (c + 1) later) (n + length values) (omega (arith, many c 0 values))

  pub here_fails : (n c place : ℕ) (values : List Bounds) (later : List (List Bounds)) (bound : Bounds) → n + place ≡ number → slice_get values place ≡ Some bound → place < length values →
      fails_from n c (values ∷ later) ≡ not (value_reachable all front c (place, bound))
  here_fails n c place values later bound e at within =
      parts n c values later
      ∙ ap (λ b. b || fails_from (n + length values) (c + 1) later) (one_at cannot number n place (values_from c 0 values) (c, (0 + place, bound)) (value_at c 0 place values bound at) e)
      ∙ ap (λ b. not (value_reachable all front c (0 + place, bound)) || b) (none_before cannot number (n + length values) (all_from (c + 1) later) (omega arith))
      ∙ either (not (value_reachable all front c (0 + place, bound)))
      ∙ (let same : 0 + place ≡ place = omega arith in ap (λ n. not (value_reachable all front c (n, bound))) same)
    where
      either : (b : Bool) → (b || false) ≡ b
      either true = refl
      either false = refl

  pub later_fails : (n c : ℕ) (values : List Bounds) (later : List (List Bounds)) → n + length values ≤ number → fails_from n c (values ∷ later) ≡ fails_from (n + length values) (c + 1) later
  later_fails n c values later l =
      parts n c values later ∙ ap (λ b. b || fails_from (n + length values) (c + 1) later) (none_behind cannot number n (values_from c 0 values) (omega (arith, many c 0 values)))

-- ---- a list in reverse

slice_get-append : {X : Type 0} (xs ys : List X) (k : ℕ) → k < length xs → slice_get (xs ++ ys) k ≡ slice_get xs k
slice_get-append [] ys k l = absurd (omega arith)
slice_get-append (x ∷ xs) ys zero l = refl
slice_get-append (x ∷ xs) ys (suc k) l = slice_get-append xs ys k (omega arith)

slice_get-last : {X : Type 0} (xs : List X) (x : X) (k : ℕ) → k ≡ length xs → slice_get (xs ++ x ∷ []) k ≡ Some x
slice_get-last [] x k e = ap (slice_get (x ∷ [])) e
slice_get-last (y ∷ xs) x zero e = absurd (omega arith)
slice_get-last (y ∷ xs) x (suc k) e = slice_get-last xs x k (omega arith)

pub turned_at_place : {X : Type 0} (xs : List X) (place k : ℕ) (x : X) → place + k + 1 ≡ length xs → slice_get xs place ≡ Some x → slice_get (reverse xs) k ≡ Some x
turned_at_place [] place k x e f = absurd cc
turned_at_place {X} (y ∷ xs) zero k x e f =
    let is : y ≡ x = cc in
    ap (λ (ys : List X). slice_get ys k) (reverse_onto xs y []) ∙ slice_get-last (reverse xs) y k (omega (arith, length-reverse xs)) ∙ ap Some is
turned_at_place {X} (y ∷ xs) (suc place) k x e f =
    ap (λ (ys : List X). slice_get ys k) (reverse_onto xs y []) ∙ slice_get-append (reverse xs) (y ∷ []) k (omega (arith, length-reverse xs)) ∙ turned_at_place xs place k x (omega arith) f
