-- Members of a panel are of different households exactly if the numbers of their households are different.
use Rattle.std.proofs.Common.{◌≡◌, ℕ, ◌+◌, ◌<◌, ◌≤◌, Bool, true, false, not, ◌&&◌, ◌||◌, eqb, leb, ltb, List, [], ◌∷◌, length, map, count_by, get_or, Option, Some, None, refl, sym, ap, ap₂, ◌∙◌, ◌⊎◌, ⊎_elim, arith, subst}
use Rattle.std.specs.Prelude.{unwrap_or}
use Rattle.std.specs.List.{find, list_all, list_any, AllByRecursion, range_with_len}
use Rattle.std.proofs.lemmas.Bool.{and_parts, eqb-true, eq-eqb, ltb-true, lt-ltb, leb-true, le-leb, false≢true, false_from_ne_true, or_cases}
use Rattle.std.proofs.lemmas.List.FromFn.{get_or-map-range_with_len, length-map-range_with_len}
use Rattle.define_pools.proofs.Each.{each_everywhere, each_from_list_all, each_map, each_mapped, each_range, list_all_from_each, range_each}
use Rattle.define_pools.proofs.Found.{find-each, find-none, find-passes, find_same}
use Rattle.define_pools.proofs.Lists.{map_same}
use Rattle.define_pools.proofs.Sums.{total, total-zero, total_eq, one_if, count_by-total}
use Rattle.define_pools.specs.Lists.{includes, is_increasing}
use Rattle.define_pools.specs.Pool.{Volunteer, volunteer, is_same_household, share_household, keeps_households}
use Rattle.define_searches.proofs.Households.{share_back, same_name}
use Rattle.check_reasons.specs.Households.{household_number, household_numbers, none_twice}

-- two tests are equal if each implies the other
pub same_tests : (a b : Bool) → (a ≡ true → b ≡ true) → (b ≡ true → a ≡ true) → a ≡ b
same_tests true b f g = sym (f refl)
same_tests false true f g = absurd (false≢true (g refl))
same_tests false false f g = refl

module _ (volunteers : List Volunteer) where
  abbrev share : ℕ → ℕ → Bool
  share = share_household volunteers

  abbrev everybody : List ℕ
  everybody = range_with_len 0 (length volunteers)

  abbrev number : ℕ → ℕ
  number = household_number volunteers

  abbrev tested : ℕ → ℕ → Bool
  tested i j = eqb j i || share i j

  share_along : (i j k : ℕ) → share i j ≡ true → share i k ≡ share j k
  share_along i j k h =
      let same = same_name (volunteer volunteers i).household (volunteer volunteers j).household h in
      ap (λ name. is_same_household name (volunteer volunteers k).household) same

  back : (i j : ℕ) → share i j ≡ true → share j i ≡ true
  back = share_back volunteers

  itself : (i j : ℕ) → share i j ≡ true → share i i ≡ true
  itself i j h = share_along i j i h ∙ back i j h

  share_comm : (i j : ℕ) → share i j ≡ share j i
  share_comm i j = same_tests (share i j) (share j i) (back i j) (back j i)

  -- ---- the number of a household

  -- If `i` has a household, the test `tested i`, which also passes `i` itself, is the same as `share i`.
  tested_is : (i : ℕ) → share i i ≡ true → (k : ℕ) → tested i k ≡ share i k
  tested_is i own k = by (eqb k i) refl
    where
      by : (b : Bool) → eqb k i ≡ b → (b || share i k) ≡ share i k
      by true e = let same = eqb-true k i e in sym (ap (share i) same ∙ own)
      by false e = refl

  is_found : (i : ℕ) → i < length volunteers → find (tested i) everybody ≡ None → ⊥
  is_found i below none =
      let fails = range_each (λ k. tested i k ≡ false) 0 (length volunteers) i (find-none (tested i) everybody none) (omega arith) (omega arith) in
      let passes : tested i i ≡ true = ap (λ b. b || share i i) (eq-eqb i i refl) in false≢true (sym fails ∙ passes)

  number_passes : (i : ℕ) → tested i (number i) ≡ true
  number_passes i = by (find (tested i) everybody) refl
    where
      by : (found : Option ℕ) → find (tested i) everybody ≡ found → tested i (unwrap_or found i) ≡ true
      by None e = ap (λ b. b || share i i) (eq-eqb i i refl)
      by (Some k) e = find-passes (tested i) everybody k e

  pub number_below : (i : ℕ) → i < length volunteers → number i < length volunteers
  number_below i below = by (find (tested i) everybody) refl
    where
      by : (found : Option ℕ) → find (tested i) everybody ≡ found → unwrap_or found i < length volunteers
      by None e = below
      by (Some k) e = find-each (tested i) (λ k. k < length volunteers) everybody k (each_range (λ k. k < length volunteers) 0 (length volunteers) (λ k low high. omega arith)) e

  number_same : (i j : ℕ) → i < length volunteers → share i j ≡ true → number i ≡ number j
  number_same i j below h = by (find (tested i) everybody) refl
    where
      same : find (tested i) everybody ≡ find (tested j) everybody
      same = find_same (tested i) (tested j) everybody
          (each_everywhere (λ k. tested i k ≡ tested j k) (λ k. tested_is i (itself i j h) k ∙ share_along i j k h ∙ sym (tested_is j (itself j i (back i j h)) k)) everybody)

      by : (found : Option ℕ) → find (tested i) everybody ≡ found → number i ≡ number j
      by None e = absurd (is_found i below e)
      by (Some k) e = ap (λ found. unwrap_or found i) e ∙ sym (ap (λ found. unwrap_or found j) (sym same ∙ e))

  number_shared : (i j : ℕ) → (i ≡ j → ⊥) → number i ≡ number j → share i j ≡ true
  number_shared i j apart e =
      let a = number i in
      let other : tested j a ≡ true = ap (tested j) e ∙ number_passes j in
      ⊎_elim
      (λ (own : eqb a i ≡ true).
      let is_i = eqb-true a i own in
      ⊎_elim (λ (at_j : eqb a j ≡ true). absurd (apart (sym is_i ∙ eqb-true a j at_j))) (λ (shares : share j a ≡ true). back j i (ap (share j) (sym is_i) ∙ shares)) (or_cases (eqb a j) (share j a) other))
      (λ (shares : share i a ≡ true).
      ⊎_elim (λ (at_j : eqb a j ≡ true). ap (share i) (sym (eqb-true a j at_j)) ∙ shares) (λ (to_j : share j a ≡ true). share_along i a j shares ∙ back j a to_j) (or_cases (eqb a j) (share j a) other))
      (or_cases (eqb a i) (share i a) (number_passes i))

  number_tells : (i j : ℕ) → i < length volunteers → (i ≡ j → ⊥) → eqb (number j) (number i) ≡ share i j
  number_tells i j below apart =
      same_tests (eqb (number j) (number i)) (share i j) (λ e. number_shared i j apart (sym (eqb-true (number j) (number i) e))) (λ h. eq-eqb (number j) (number i) (sym (number_same i j below h)))

  -- ---- the numbers of a panel

  abbrev few : List ℕ → ℕ → Bool
  few whole i = leb (count_by (share i) whole) 1

  -- the household number of `x` comes again in `xs` exactly if somebody in `xs` shares the household
  again : (x : ℕ) (xs : List ℕ) → x < length volunteers → list_all (λ y. ltb x y) xs ≡ true → includes (map number xs) (number x) ≡ list_any (share x) xs
  again x [] below after = refl
  again x (y ∷ ys) below after =
      let parts = and_parts (ltb x y) (list_all (λ y. ltb x y) ys) after in
      let less = ltb-true x y parts.0 in
      ap₂ (λ a b. a || b) (number_tells x y below (λ e. omega arith)) (again x ys below parts.1)

  some_counted : (p : ℕ → Bool) (xs : List ℕ) → list_any p xs ≡ true → 1 ≤ total (λ j. one_if (p j)) xs
  some_counted p [] e = absurd (false≢true e)
  some_counted p (x ∷ xs) e = by (p x) e (some_counted p xs)
    where
      by : (b : Bool) → (b || list_any p xs) ≡ true → (list_any p xs ≡ true → 1 ≤ total (λ j. one_if (p j)) xs) → 1 ≤ one_if b + total (λ j. one_if (p j)) xs
      by true e rest = omega arith
      by false e rest = let many = rest e in omega arith

  none_pass : (p : ℕ → Bool) (xs : List ℕ) → list_any p xs ≡ false → AllByRecursion (λ x. p x ≡ false) xs
  none_pass p [] e = tt
  none_pass p (x ∷ xs) e = by (p x) refl e (none_pass p xs)
    where
      by : (b : Bool) → p x ≡ b → (b || list_any p xs) ≡ false → (list_any p xs ≡ false → AllByRecursion (λ x. p x ≡ false) xs) → (p x ≡ false) × AllByRecursion (λ x. p x ≡ false) xs
      by true f e rest = absurd (false≢true (sym e))
      by false f e rest = (f, rest e)

  one_at_most : (b : Bool) → one_if b ≤ 1
  one_at_most true = omega arith
  one_at_most false = omega arith

  -- No two of `x` and `xs` are of one household exactly if nobody in `xs` shares the household of `x`, and no two of `xs` are of one
  -- household.
  with_first : (x : ℕ) (xs : List ℕ) → list_all (few (x ∷ xs)) (x ∷ xs) ≡ (not (list_any (share x) xs) && list_all (few xs) xs)
  with_first x xs = by (list_any (share x) xs) refl
    where
      by : (b : Bool) → list_any (share x) xs ≡ b → list_all (few (x ∷ xs)) (x ∷ xs) ≡ (not b && list_all (few xs) xs)
      by true e =
          let some = some_counted (share x) xs e in
          let own : share x x ≡ true = has_own xs e in
          let many : leb (count_by (share x) (x ∷ xs)) 1 ≡ false = false_from_ne_true (leb (count_by (share x) (x ∷ xs)) 1)
          (λ h. let le = leb-true (count_by (share x) (x ∷ xs)) 1 h in absurd (omega (arith, count_by-total (share x) (x ∷ xs), ap one_if own))) in
          ap (λ b. b && list_all (few (x ∷ xs)) xs) many
        where
          has_own : (ys : List ℕ) → list_any (share x) ys ≡ true → share x x ≡ true
          has_own [] e = absurd (false≢true e)
          has_own (y ∷ ys) e = ⊎_elim (λ (h : share x y ≡ true). itself x y h) (λ (h : list_any (share x) ys ≡ true). has_own ys h) (or_cases (share x y) (list_any (share x) ys) e)
      by false e =
          let nobody = none_pass (share x) xs e in
          let zero = total_eq (λ j. one_if (share x j)) (λ j. 0) xs (each_map (λ k. share x k ≡ false) (λ k. one_if (share x k) ≡ 0) (λ k f. ap one_if f) xs nobody) in
          let here : few (x ∷ xs) x ≡ true = le-leb (count_by (share x) (x ∷ xs)) 1 (omega (arith, count_by-total (share x) (x ∷ xs), zero, total-zero (λ k. 0) (λ (k : ℕ). refl) xs, one_at_most (share x x))) in
          ap₂ (λ a b. a && b) here (others xs nobody)
        where
          others : (ys : List ℕ) → AllByRecursion (λ y. share x y ≡ false) ys → list_all (few (x ∷ xs)) ys ≡ list_all (few xs) ys
          others [] h = refl
          others (y ∷ ys) h =
              let apart : share y x ≡ false = share_comm y x ∙ h.0 in
              let same : count_by (share y) (x ∷ xs) ≡ count_by (share y) xs = omega (arith, count_by-total (share y) (x ∷ xs), count_by-total (share y) xs, ap one_if apart) in
              ap₂ (λ a b. a && b) (ap (λ n. leb n 1) same) (others ys h.1)

  numbers_differ : (panel : List ℕ) → is_increasing panel ≡ true → list_all (λ i. ltb i (length volunteers)) panel ≡ true → none_twice (map number panel) ≡ keeps_households volunteers panel
  numbers_differ [] up below = refl
  numbers_differ (x ∷ xs) up below =
      let rises = and_parts (list_all (λ y. ltb x y) xs) (is_increasing xs) up in
      let within = and_parts (ltb x (length volunteers)) (list_all (λ i. ltb i (length volunteers)) xs) below in
      let rest = numbers_differ xs rises.1 within.1 in
      ap₂ (λ a b. not a && b) (again x xs (ltb-true x (length volunteers) within.0) rises.0) rest ∙ sym (with_first x xs)

-- The members' household numbers, looked up in the list of all volunteers' numbers, are all different exactly if no two members are of one
-- household.
pub kept_numbers_differ : (volunteers : List Volunteer) (numbers panel : List ℕ) → numbers ≡ household_numbers volunteers → is_increasing panel ≡ true →
    list_all (λ i. ltb i (length volunteers)) panel ≡ true → none_twice (map (λ i. get_or numbers i 0) panel) ≡ keeps_households volunteers panel
kept_numbers_differ volunteers numbers panel e up below =
    ap none_twice (map_same (λ i. get_or numbers i 0) (household_number volunteers) panel
    (each_map (λ i. ltb i (length volunteers) ≡ true) (λ i. get_or numbers i 0 ≡ household_number volunteers i)
    (λ i h. ap (λ (xs : List ℕ). get_or xs i 0) e ∙ get_or-map-range_with_len (household_number volunteers) 0 (length volunteers) i i 0 (ltb-true i (length volunteers) h) (omega arith))
    panel (each_from_list_all (λ i. ltb i (length volunteers)) panel below)))
    ∙ numbers_differ volunteers panel up below

pub kept_numbers_below : (volunteers : List Volunteer) (numbers : List ℕ) → numbers ≡ household_numbers volunteers → list_all (λ h. ltb h (length numbers)) numbers ≡ true
kept_numbers_below volunteers numbers e =
    let many : length numbers ≡ length volunteers = ap (λ (xs : List ℕ). length xs) e ∙ length-map-range_with_len (household_number volunteers) 0 (length volunteers) in
    let each = each_mapped (λ h. ltb h (length numbers) ≡ true) (household_number volunteers) (range_with_len 0 (length volunteers))
    (each_range (λ i. ltb (household_number volunteers i) (length numbers) ≡ true) 0 (length volunteers)
    (λ i low high. lt-ltb (household_number volunteers i) (length numbers) (let below = number_below volunteers i (omega arith) in omega arith))) in
    subst (λ (xs : List ℕ). list_all (λ h. ltb h (length numbers)) xs ≡ true) (sym e) (list_all_from_each (λ h. ltb h (length numbers)) (household_numbers volunteers) each)

pub many_numbers : (volunteers : List Volunteer) (numbers : List ℕ) → numbers ≡ household_numbers volunteers → length numbers ≡ length volunteers
many_numbers volunteers numbers e = ap (λ (xs : List ℕ). length xs) e ∙ length-map-range_with_len (household_number volunteers) 0 (length volunteers)
