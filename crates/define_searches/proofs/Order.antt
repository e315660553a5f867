-- Compositions are listed in the order of `comes_before`: each comes before all that follow it.
use Rattle.std.proofs.Common.{◌≡◌, ℕ, zero, suc, ◌+◌, ◌-◌, ◌<◌, Bool, true, false, cond, ◌&&◌, eqb, ltb, List, [], ◌∷◌, ◌++◌, map, filter, refl, arith, inl, inr, ◌⊎◌}
use Rattle.std.specs.List.{flat_map, AllByRecursion}
use Rattle.std.proofs.lemmas.Bool.{and_parts, eq-eqb, eqb-true, lt-ltb, ltb-true, le-ltb, or_cases}
use Rattle.define_pools.proofs.Each.{each_map, each_append, each_everywhere, each_filter, each_mapped}
use Rattle.define_searches.specs.Best.{comes_before}
use Rattle.define_searches.specs.Classes.{Class, Classes}
use Rattle.define_searches.specs.Compositions.{all_counts, compositions, counts_down, is_composition}
use Rattle.define_searches.proofs.Listed.{each_count}

-- each list comes before all that follow it
abbrev pub Ordered : List (List ℕ) → Type 0
Ordered [] = Unit {0}
Ordered (x ∷ xs) = AllByRecursion (λ y. comes_before x y ≡ true) xs × Ordered xs

-- ---- which of two lists comes first

-- if `xs` comes before `ys`, `ys` doesn't come before `xs`
pub not_back : (xs ys : List ℕ) → comes_before xs ys ≡ true → comes_before ys xs ≡ true → ⊥
not_back [] ys e f = cc
not_back (c ∷ xs) [] e f = cc
not_back (c ∷ xs) (d ∷ ys) e f =
    by (λ l m. not_back xs ys l m) (or_cases (ltb d c) (eqb c d && comes_before xs ys) e) (or_cases (ltb c d) (eqb d c && comes_before ys xs) f)
  where
    by : (comes_before xs ys ≡ true → comes_before ys xs ≡ true → ⊥) → (ltb d c ≡ true) ⊎ ((eqb c d && comes_before xs ys) ≡ true) → (ltb c d ≡ true) ⊎ ((eqb d c && comes_before ys xs) ≡ true) → ⊥
    by rest (inl l) (inl m) = let a = ltb-true d c l in let b = ltb-true c d m in omega arith
    by rest (inl l) (inr m) = let a = ltb-true d c l in let b = eqb-true d c (and_parts (eqb d c) (comes_before ys xs) m).0 in omega arith
    by rest (inr l) (inl m) = let a = eqb-true c d (and_parts (eqb c d) (comes_before xs ys) l).0 in let b = ltb-true c d m in omega arith
    by rest (inr l) (inr m) = rest (and_parts (eqb c d) (comes_before xs ys) l).1 (and_parts (eqb d c) (comes_before ys xs) m).1

same_first : (c : ℕ) (xs ys : List ℕ) → comes_before xs ys ≡ true → comes_before (c ∷ xs) (c ∷ ys) ≡ true
same_first c xs ys e =
    let not_less : ltb c c ≡ false = le-ltb c c (omega arith) in let same : eqb c c ≡ true = eq-eqb c c refl in rw (not_less, same) e

greater_first : (c d : ℕ) (xs ys : List ℕ) → d < c → comes_before (c ∷ xs) (d ∷ ys) ≡ true
greater_first c d xs ys l = let less : ltb d c ≡ true = lt-ltb d c l in rw less refl

-- ---- lists that are `Ordered`

ordered_append : (xs ys : List (List ℕ)) → Ordered xs → Ordered ys → AllByRecursion (λ x. AllByRecursion (λ y. comes_before x y ≡ true) ys) xs → Ordered (xs ++ ys)
ordered_append [] ys h k a = k
ordered_append (x ∷ xs) ys h k a = (each_append (λ y. comes_before x y ≡ true) xs ys h.0 a.0, ordered_append xs ys h.1 k a.1)

-- in a list that is `Ordered`, each element comes before those that follow it
pub ordered_after : (xs ys : List (List ℕ)) (y : List ℕ) → Ordered (xs ++ y ∷ ys) → AllByRecursion (λ z. comes_before y z ≡ true) ys
ordered_after [] ys y h = h.0
ordered_after (x ∷ xs) ys y h = ordered_after xs ys y h.1

ordered_filter : (p : List ℕ → Bool) (xs : List (List ℕ)) → Ordered xs → Ordered (filter p xs)
ordered_filter p [] h = tt
ordered_filter p (x ∷ xs) h = by (p x) (ordered_filter p xs h.1)
  where
    by : (b : Bool) → Ordered (filter p xs) → Ordered (cond b (x ∷ filter p xs) (filter p xs))
    by true rest = (each_filter (λ y. comes_before x y ≡ true) p xs (each_map (λ y. comes_before x y ≡ true) (λ y. p y ≡ true → comes_before x y ≡ true) (λ y e t. e) xs h.0), rest)
    by false rest = rest

with_first : (c : ℕ) (xs : List (List ℕ)) → Ordered xs → Ordered (map (λ counts. c ∷ counts) xs)
with_first c [] h = tt
with_first c (x ∷ xs) h = (
  each_mapped (λ y. comes_before (c ∷ x) y ≡ true) (λ counts. c ∷ counts) xs
      (each_map (λ y. comes_before x y ≡ true) (λ y. comes_before (c ∷ x) (c ∷ y) ≡ true) (λ y e. same_first c x y e) xs h.0),
  with_first c xs h.1,
)

-- ---- compositions

counted_down : (xs : List (List ℕ)) → Ordered xs → (least more : ℕ) → Ordered (flat_map (λ c. map (λ counts. c ∷ counts) xs) (counts_down least more))
counted_down xs h least zero = ordered_append (map (λ counts. least ∷ counts) xs) [] (with_first least xs h) tt (each_everywhere (λ x. AllByRecursion (λ y. comes_before x y ≡ true) []) (λ x. tt) (map (λ counts. least ∷ counts) xs))
counted_down xs h least (suc more) =
    let c = least + suc more in
    let rest = flat_map (λ c. map (λ counts. c ∷ counts) xs) (counts_down least more) in
    ordered_append (map (λ counts. c ∷ counts) xs) rest (with_first c xs h) (counted_down xs h least more)
    (each_mapped (λ x. AllByRecursion (λ y. comes_before x y ≡ true) rest) (λ counts. c ∷ counts) xs
    (each_everywhere (λ x. AllByRecursion (λ y. comes_before (c ∷ x) y ≡ true) rest)
    (λ x. each_count (λ y. comes_before (c ∷ x) y ≡ true) (λ d. map (λ counts. d ∷ counts) xs) least more
    (λ d low high. each_mapped (λ y. comes_before (c ∷ x) y ≡ true) (λ counts. d ∷ counts) xs
    (each_everywhere (λ y. comes_before (c ∷ x) (d ∷ y) ≡ true) (λ y. greater_first c d x y (omega arith)) xs))) xs))

all_ordered : (classes : List Class) → Ordered (all_counts classes)
all_ordered [] = (tt, tt)
all_ordered (class ∷ classes) = counted_down (all_counts classes) (all_ordered classes) class.least (class.most - class.least)

-- the list of the compositions that pass a test is `Ordered`
pub compositions_ordered : (all : Classes) (p : List ℕ → Bool) → Ordered (filter p (compositions all))
compositions_ordered all p = ordered_filter p (compositions all) (ordered_filter (is_composition all) (all_counts all.classes) (all_ordered all.classes))
