-- Laws on the number of a volunteer's class, which is its place in the list of classes.
use Rattle.std.proofs.Common.{◌≡◌, ℕ, zero, suc, ◌+◌, ◌≤◌, ◌<◌, Bool, true, false, cond, List, [], ◌∷◌, map, length, get_or, refl, sym, ap, ◌∙◌, arith, subst}
use Rattle.std.specs.List.{position_or_len}
use Rattle.std.proofs.lemmas.Bool.{false≢true}
use Rattle.std.proofs.lemmas.List.{get_or-map, length-map}
use Rattle.std.proofs.lemmas.List.Elements.{All-from_recursion}
use Rattle.std.proofs.lemmas.List.Recursion.{is_position_or_len}
use Rattle.define_pools.proofs.Sums.{total, one_if}
use Rattle.define_pools.specs.Lists.{includes}
use Rattle.define_pools.specs.Pool.{Pool}
use Rattle.define_searches.specs.Classes.{Class, MakesClasses, class_by, class_number, class_of, classes_by, leaders}
use Rattle.define_searches.proofs.ByClass.{leaders_below, one_leader}
use Rattle.define_searches.proofs.FirstPanel.{holds_filter}

-- ---- the first place that passes

abbrev place : {X : Type 0} → (X → Bool) → List X → ℕ
place p [] = 0
place p (x ∷ xs) = cond (p x) 0 (1 + place p xs)

place_is : {X : Type 0} (p : X → Bool) (xs : List X) → position_or_len p xs ≡ place p xs
place_is p xs = sym (is_position_or_len (place p) p refl (λ x xs. refl) xs)

-- `place_below` and `place_passes`: if exactly one element passes a test, the first place that passes is in the list, and its element
-- passes
place_below : (p : ℕ → Bool) (xs : List ℕ) → total (λ x. one_if (p x)) xs ≡ 1 → place p xs < length xs
place_below p [] one = absurd (omega arith)
place_below p (x ∷ xs) one =
    (elim (p x) as (λ b. one_if b + total (λ x. one_if (p x)) xs ≡ 1 → cond b 0 (1 + place p xs) < length (x ∷ xs)) [
      | true ↦ λ one. omega arith
      | false ↦ λ one. omega (arith, place_below p xs (omega arith))
    ]) one

place_passes : (p : ℕ → Bool) (xs : List ℕ) (d : ℕ) → total (λ x. one_if (p x)) xs ≡ 1 → p (get_or xs (place p xs) d) ≡ true
place_passes p [] d one = absurd (omega arith)
place_passes p (x ∷ xs) d one =
    (elim (p x) as (λ b. p x ≡ b → one_if b + total (λ x. one_if (p x)) xs ≡ 1 → p (get_or (x ∷ xs) (cond b 0 (1 + place p xs)) d) ≡ true) [
      | true ↦ λ t one. t
      | false ↦ λ f one. let later : 1 + place p xs ≡ suc (place p xs) = omega arith in subst (λ k. p (get_or (x ∷ xs) k d) ≡ true) (sym later) (place_passes p xs d (omega arith))
    ]) refl one

none_at : (p : ℕ → Bool) (xs : List ℕ) (k d : ℕ) → total (λ x. one_if (p x)) xs ≡ 0 → k < length xs → p (get_or xs k d) ≡ true → ⊥
none_at p [] k d none l t = omega arith
none_at p (x ∷ xs) zero d none l t = let one = ap one_if t in omega arith
none_at p (x ∷ xs) (suc k) d none l t = none_at p xs k d (omega arith) (omega arith) t

-- if exactly one element passes, its place is the first place that passes
place_of : (p : ℕ → Bool) (xs : List ℕ) (k d : ℕ) → total (λ x. one_if (p x)) xs ≡ 1 → k < length xs → p (get_or xs k d) ≡ true → place p xs ≡ k
place_of p [] k d one l t = absurd (omega arith)
place_of p (x ∷ xs) zero d one l t = ap (λ b. cond b 0 (1 + place p xs)) t
place_of p (x ∷ xs) (suc k) d one l t =
    (elim (p x) as (λ b. one_if b + total (λ x. one_if (p x)) xs ≡ 1 → cond b 0 (1 + place p xs) ≡ suc k) [
      | true ↦ λ one. absurd (none_at p xs k d (omega arith) (omega arith) t)
      | false ↦ λ one. let rest = place_of p xs k d (omega arith) (omega arith) t in omega arith
    ]) one

-- ---- the class of a volunteer

module _ (pool : Pool) (alike : ℕ → ℕ → Bool) (makes : MakesClasses pool alike) where
  abbrev n : ℕ
  n = length pool.volunteers

  abbrev firsts : List ℕ
  firsts = leaders alike n

  abbrev number : ℕ → ℕ
  number i = class_number (classes_by alike pool).classes i

  by_leaders : (i : ℕ) → i < n → (xs : List ℕ) → place (λ class. includes class.members i) (map (class_by alike pool) xs) ≡ place (λ l. alike l i) xs
  by_leaders i below [] = refl
  by_leaders i below (l ∷ xs) =
      let here : includes (class_of alike n l) i ≡ alike l i = holds_filter (alike l) i 0 n (omega arith) (omega arith) in
      let rest = by_leaders i below xs in rw (here, rest) refl

  number_is : (i : ℕ) → i < n → number i ≡ place (λ l. alike l i) firsts
  number_is i below = place_is (λ (class : Class). includes class.members i) (classes_by alike pool).classes ∙ by_leaders i below firsts

  one : (i : ℕ) → i < n → total (λ l. one_if (alike l i)) firsts ≡ 1
  one i below = one_leader alike makes.same n i below

  pub class_count : length (classes_by alike pool).classes ≡ length firsts
  class_count = length-map firsts (class_by alike pool)

  -- a volunteer's class number is that of a class in the list
  pub number_below : (i : ℕ) → i < n → number i < length (classes_by alike pool).classes
  number_below i below = let low = place_below (λ l. alike l i) firsts (one i below) in omega (arith, number_is i below, class_count)

  -- a volunteer is alike to the leader of their class
  pub leader_alike : (i d : ℕ) → i < n → alike (get_or firsts (number i) d) i ≡ true
  leader_alike i d below = subst (λ k. alike (get_or firsts k d) i ≡ true) (sym (number_is i below)) (place_passes (λ l. alike l i) firsts d (one i below))

  -- a volunteer's class is the one to whose leader they are alike
  pub number_of : (k i d : ℕ) → k < length firsts → i < n → alike (get_or firsts k d) i ≡ true → number i ≡ k
  number_of k i d inside below t = number_is i below ∙ place_of (λ l. alike l i) firsts k d (one i below) inside t

  -- alike volunteers have the same class number
  pub number_same : (i j : ℕ) → i < n → j < n → alike i j ≡ true → number i ≡ number j
  number_same i j a b t =
      let leader = get_or firsts (number j) 0 in
      number_of (number j) i 0 (omega (arith, number_below j b, class_count)) a (makes.same.along leader j i (leader_alike j 0 b) (makes.same.back i j t))

  -- ---- the leader of a class

  abbrev pub leader_at : ℕ → ℕ
  leader_at t = get_or firsts t 0

  pub leader_below : (t : ℕ) → t < length firsts → leader_at t < n
  leader_below t inside = All-from_recursion (λ l. l < n) firsts (leaders_below alike makes.same n) t 0 inside

  pub leader_number : (t : ℕ) → t < length firsts → number (leader_at t) ≡ t
  leader_number t inside = number_of t (leader_at t) 0 inside (leader_below t inside) (makes.same.itself (leader_at t))

  pub class_is : (t : ℕ) (d : Class) → t < length firsts → get_or (classes_by alike pool).classes t d ≡ class_by alike pool (leader_at t)
  class_is t d inside = get_or-map (class_by alike pool) firsts t 0 d inside

  -- a volunteer's class number is the number of a class that contains the volunteer
  pub number_has : (i : ℕ) (d : Class) → i < n → includes (get_or (classes_by alike pool).classes (number i) d).members i ≡ true
  number_has i d below =
      let inside : number i < length firsts = omega (arith, number_below i below, class_count) in
      ap (λ (class : Class). includes class.members i) (class_is (number i) d inside)
      ∙ holds_filter (alike (leader_at (number i))) i 0 n (omega arith) (omega arith) ∙ leader_alike i 0 below
