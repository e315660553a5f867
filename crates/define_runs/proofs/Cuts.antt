-- The cuts of a dial: 0 and all marks, each once, in rising order.
use Rattle.std.proofs.Common.{◌≡◌, ◌⊎◌, inl, inr, ⊎_elim, ℕ, suc, ◌≤◌, ◌<◌, Bool, true, false, cond, ◌||◌, eqb, ltb, leb, List, [], ◌∷◌, ◌++◌, length, refl, sym, ap, ◌∙◌, arith}
use Rattle.std.specs.List.{AllByRecursion, flat_map, list_all}
use Rattle.std.proofs.lemmas.Bool.{and_from, and_parts, cases_eq, eqb-true, eq-eqb, ne_eqb, lt-ltb, ltb-true, le-leb, false≢true}
use Rattle.std.proofs.lemmas.List.Concat.{flat_map-cons}
use Rattle.std.proofs.Math.Bool.{or-true, or_assoc}
use Rattle.define_pools.proofs.Each.{each_map, list_all_from_each}
use Rattle.define_pools.specs.Lists.{includes, is_increasing, put_in_order, rising}
use Rattle.define_pools.proofs.Orders.{Rises, Rises-rising}
use Rattle.define_searches.specs.Classes.{Classes}
use Rattle.define_runs.specs.Spreading.{partly_taken, dial, marks, once_each, cuts}

-- ---- the numbers of a sorted list

swap : (a b c : Bool) → (a || (b || c)) ≡ (b || (a || c))
swap true true c = refl
swap true false c = refl
swap false true c = refl
swap false false c = refl

includes-put : (x z : ℕ) (xs : List ℕ) → includes (put_in_order x xs) z ≡ includes (x ∷ xs) z
includes-put x z [] = refl
includes-put x z (y ∷ ys) =
    let rest = includes-put x z ys in
    elim (leb x y) as (λ b. includes (cond b (x ∷ (y ∷ ys)) (y ∷ put_in_order x ys)) z ≡ includes (x ∷ (y ∷ ys)) z) [
      | true ↦ refl
      | false ↦ ap (λ b. eqb y z || b) rest ∙ swap (eqb y z) (eqb x z) (includes ys z)
    ]

includes-rising : (z : ℕ) (xs : List ℕ) → includes (rising xs) z ≡ includes xs z
includes-rising z [] = refl
includes-rising z (x ∷ xs) = includes-put x z (rising xs) ∙ ap (λ b. eqb x z || b) (includes-rising z xs)

includes-once : (z : ℕ) (xs : List ℕ) → includes (once_each xs) z ≡ includes xs z
includes-once z [] = refl
includes-once z (x ∷ []) = refl
includes-once z (x ∷ (y ∷ ys)) =
    let rest = includes-once z (y ∷ ys) in
    (elim (eqb x y) as (λ b. eqb x y ≡ b → includes (cond b (once_each (y ∷ ys)) (x ∷ once_each (y ∷ ys))) z ≡ includes (x ∷ (y ∷ ys)) z) [
      | true ↦ λ e. let s : x ≡ y = eqb-true x y e in rest ∙ twice (eqb x z) (eqb y z) (includes ys z) (ap (λ n. eqb n z) s)
      | false ↦ λ e. ap (λ b. eqb x z || b) rest
    ]) refl
  where
    twice : (a b c : Bool) → a ≡ b → (b || c) ≡ (a || (b || c))
    twice true b c e = let s : b ≡ true = sym e in rw s refl
    twice false b c e = refl

-- ---- facts of each number of a sorted list

each_put : (P : ℕ → Type 0) (x : ℕ) (xs : List ℕ) → P x → AllByRecursion P xs → AllByRecursion P (put_in_order x xs)
each_put P x [] h each = (h, tt)
each_put P x (y ∷ ys) h each =
    let rest = each_put P x ys h each.1 in
    elim (leb x y) as (λ b. AllByRecursion P (cond b (x ∷ (y ∷ ys)) (y ∷ put_in_order x ys))) [
      | true ↦ (h, each)
      | false ↦ (each.0, rest)
    ]

each_rising : (P : ℕ → Type 0) (xs : List ℕ) → AllByRecursion P xs → AllByRecursion P (rising xs)
each_rising P [] each = tt
each_rising P (x ∷ xs) each = each_put P x (rising xs) each.0 (each_rising P xs each.1)

each_once : (P : ℕ → Type 0) (xs : List ℕ) → AllByRecursion P xs → AllByRecursion P (once_each xs)
each_once P [] each = tt
each_once P (x ∷ []) each = each
each_once P (x ∷ (y ∷ ys)) each =
    let rest = each_once P (y ∷ ys) each.1 in
    elim (eqb x y) as (λ b. AllByRecursion P (cond b (once_each (y ∷ ys)) (x ∷ once_each (y ∷ ys)))) [
      | true ↦ rest
      | false ↦ (each.0, rest)
    ]

increases-once : (xs : List ℕ) → Rises xs → is_increasing (once_each xs) ≡ true
increases-once [] r = refl
increases-once (x ∷ []) r = refl
increases-once (x ∷ (y ∷ ys)) r =
    let rest = increases-once (y ∷ ys) r.1 in
    (elim (eqb x y) as (λ b. eqb x y ≡ b → is_increasing (cond b (once_each (y ∷ ys)) (x ∷ once_each (y ∷ ys))) ≡ true) [
      | true ↦ λ e. rest
      | false ↦ λ e.
          let less : x < y = less_than x y r.0.0 e in
          let above : AllByRecursion (λ z. ltb x z ≡ true) (y ∷ ys) =
          (lt-ltb x y less, each_map (λ z. y ≤ z) (λ z. ltb x z ≡ true) (λ z h. lt-ltb x z (omega arith)) ys r.1.0) in
          and_from (list_all (λ z. ltb x z) (once_each (y ∷ ys))) (is_increasing (once_each (y ∷ ys)))
          (list_all_from_each (λ z. ltb x z) (once_each (y ∷ ys)) (each_once (λ z. ltb x z ≡ true) (y ∷ ys) above)) rest
    ]) refl
  where
    less_than : (x y : ℕ) → x ≤ y → eqb x y ≡ false → x < y
    less_than x y l e = let other : x ≡ y → ⊥ = (λ s. let t = eq-eqb x y s in absurd cc) in omega arith

-- ---- cuts

-- sorting a list and dropping repeated numbers gives an increasing list
pub once_increases : (xs : List ℕ) → is_increasing (once_each (rising xs)) ≡ true
once_increases xs = increases-once (rising xs) (Rises-rising xs)

-- sorting a list and dropping repeated numbers leaves the same numbers in it
pub includes-once_rising : (xs : List ℕ) (z : ℕ) → includes (once_each (rising xs)) z ≡ includes xs z
includes-once_rising xs z = includes-once z (rising xs) ∙ includes-rising z xs

pub cuts_increase : (all : Classes) (counts : List ℕ) → is_increasing (cuts all counts) ≡ true
cuts_increase all counts = once_increases (0 ∷ flat_map (marks (dial all counts)) (partly_taken all.classes counts))

pub includes-cuts : (all : Classes) (counts : List ℕ) (z : ℕ) → includes (cuts all counts) z ≡ includes (0 ∷ flat_map (marks (dial all counts)) (partly_taken all.classes counts)) z
includes-cuts all counts z = includes-once_rising (0 ∷ flat_map (marks (dial all counts)) (partly_taken all.classes counts)) z

pub each_cut : (P : ℕ → Type 0) (all : Classes) (counts : List ℕ) → AllByRecursion P (0 ∷ flat_map (marks (dial all counts)) (partly_taken all.classes counts)) → AllByRecursion P (cuts all counts)
each_cut P all counts each =
    let xs = 0 ∷ flat_map (marks (dial all counts)) (partly_taken all.classes counts) in each_once P (rising xs) (each_rising P xs each)

-- two joined lists contain a number if one of them does
pub includes-append : (xs ys : List ℕ) (z : ℕ) → includes (xs ++ ys) z ≡ (includes xs z || includes ys z)
includes-append [] ys z = refl
includes-append (x ∷ xs) ys z = ap (λ b. eqb x z || b) (includes-append xs ys z) ∙ sym (or_assoc (eqb x z) (includes xs z) (includes ys z))

-- if the list `f x` of some `x` in `xs` contains `z`, the joined lists contain `z`
pub includes-flat_map : (f : ℕ → List ℕ) (xs : List ℕ) (x z : ℕ) → includes xs x ≡ true → includes (f x) z ≡ true → includes (flat_map f xs) z ≡ true
includes-flat_map f [] x z h k = cc
includes-flat_map f (y ∷ ys) x z h k =
    ap (λ zs. includes zs z) (flat_map-cons f y ys) ∙ includes-append (f y) (flat_map f ys) z ∙ by (eqb y x) refl h (λ later. includes-flat_map f ys x z later k)
  where
    by : (b : Bool) → eqb y x ≡ b → (b || includes ys x) ≡ true → (includes ys x ≡ true → includes (flat_map f ys) z ≡ true) → (includes (f y) z || includes (flat_map f ys) z) ≡ true
    by true e h rest = let s : y ≡ x = eqb-true y x e in let here : includes (f y) z ≡ true = ap (λ n. includes (f n) z) s ∙ k in rw here refl
    by false e h rest = let later = rest h in rw later (or-true (includes (f y) z))

-- an increasing list that contains 0 begins with 0
pub from_zero : (xs : List ℕ) → is_increasing xs ≡ true → includes xs 0 ≡ true → (rest : List ℕ) × (xs ≡ 0 ∷ rest)
from_zero [] up h = absurd cc
from_zero (x ∷ xs) up h = first (cases_eq x 0)
  where
    open_parts : list_all (λ y. ltb x y) xs ≡ true → (x ≡ 0 → ⊥) → includes xs 0 ≡ false
    open_parts above other = none xs above
      where
        none : (ys : List ℕ) → list_all (λ y. ltb x y) ys ≡ true → includes ys 0 ≡ false
        none [] h = refl
        none (y ∷ ys) h =
            let parts = and_parts (ltb x y) (list_all (λ y. ltb x y) ys) h in
            let less = ltb-true x y parts.0 in
            let e : eqb y 0 ≡ false = ne_eqb y 0 (λ e. omega arith) in
            let rest = none ys parts.1 in rw (e, rest) refl

    first : (x ≡ 0) ⊎ (x ≡ 0 → ⊥) → (rest : List ℕ) × (x ∷ xs ≡ 0 ∷ rest)
    first (inl e) = (xs, ap (λ n. n ∷ xs) e)
    first (inr other) =
        let e : eqb x 0 ≡ false = ne_eqb x 0 other in
        let none = open_parts (and_parts (list_all (λ y. ltb x y) xs) (is_increasing xs) up).0 other in
        absurd (false≢true (sym none ∙ (rw e at h)))

pub cuts_begin : (all : Classes) (counts : List ℕ) → (rest : List ℕ) × (cuts all counts ≡ 0 ∷ rest)
cuts_begin all counts = from_zero (cuts all counts) (cuts_increase all counts) (includes-cuts all counts 0)

-- ---- the number of cuts

length-put : (x : ℕ) (xs : List ℕ) → length (put_in_order x xs) ≡ suc (length xs)
length-put x [] = refl
length-put x (y ∷ ys) =
    let rest = length-put x ys in
    elim (leb x y) as (λ b. length (cond b (x ∷ (y ∷ ys)) (y ∷ put_in_order x ys)) ≡ suc (suc (length ys))) [
      | true ↦ omega arith
      | false ↦ omega (arith, rest)
    ]

length-rising : (xs : List ℕ) → length (rising xs) ≡ length xs
length-rising [] = refl
length-rising (x ∷ xs) = omega (arith, length-put x (rising xs), length-rising xs)

length-once : (xs : List ℕ) → length (once_each xs) ≤ length xs
length-once [] = omega arith
length-once (x ∷ []) = omega arith
length-once (x ∷ (y ∷ ys)) =
    let rest = length-once (y ∷ ys) in
    elim (eqb x y) as (λ b. length (cond b (once_each (y ∷ ys)) (x ∷ once_each (y ∷ ys))) ≤ suc (suc (length ys))) [
      | true ↦ omega (arith, rest)
      | false ↦ omega (arith, rest)
    ]

-- if a list contains 0, putting 0 before it gives at most as many different numbers as the list is long
pub zero_again : (xs : List ℕ) → includes xs 0 ≡ true → length (once_each (rising (0 ∷ xs))) ≤ length xs
zero_again xs h = by (rising xs) (Rises-rising xs) (includes-rising 0 xs ∙ h) (length-rising xs)
  where
    none : (ys : List ℕ) (y : ℕ) → AllByRecursion (λ z. y ≤ z) ys → (y ≡ 0 → ⊥) → includes ys 0 ≡ false
    none [] y h ne = refl
    none (z ∷ ys) y h ne =
        let low = h.0 in let e : eqb z 0 ≡ false = ne_eqb z 0 (λ e. ne (omega arith)) in let rest = none ys y h.1 ne in rw (e, rest) refl

    first : (y : ℕ) (ys : List ℕ) → AllByRecursion (λ z. y ≤ z) ys → includes (y ∷ ys) 0 ≡ true → y ≡ 0
    first y ys above h = ⊎_elim (λ (s : y ≡ 0). s)
        (λ (ne : y ≡ 0 → ⊥). let e : eqb y 0 ≡ false = ne_eqb y 0 ne in absurd (false≢true (sym (none ys y above ne) ∙ (rw e at h)))) (cases_eq y 0)

    by : (ys : List ℕ) → Rises ys → includes ys 0 ≡ true → length ys ≡ length xs → length (once_each (put_in_order 0 ys)) ≤ length xs
    by [] r h e = absurd cc
    by (y ∷ ys) r h e =
        let zero_first : y ≡ 0 = first y ys r.0 h in
        let low : leb 0 y ≡ true = le-leb 0 y (omega arith) in
        let same : eqb 0 y ≡ true = eq-eqb 0 y (sym zero_first) in
        let all = length-once (y ∷ ys) in
        rw (low, same) (omega (arith, all))
