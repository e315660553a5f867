-- The household rule on panels and on compositions, by the numbers of households.
use Rattle.std.proofs.Common.{◌≡◌, ℕ, ◌+◌, ◌≤◌, ◌<◌, Bool, true, false, cond, ◌&&◌, eqb, leb, ltb, List, [], ◌∷◌, length, count_by, Option, Some, None, refl, sym, ap, ◌∙◌, ◌⊎◌, inl, inr, ⊎_elim, arith, subst, le_of_eq}
use Rattle.std.specs.Prelude.{is_some, bytes_eq}
use Rattle.std.specs.List.{find, list_all, AllByRecursion, range_with_len}
use Rattle.std.proofs.lemmas.Bool.{cases_lt, eqb-true, eq-eqb, leb-true, le-leb, false≢true}
use Rattle.std.proofs.lemmas.Slice.Eq.{bytes_eq-Decides}
use Rattle.define_pools.proofs.Each.{each_everywhere, each_from_list_all, each_map, each_range, list_all_from_each}
use Rattle.define_pools.proofs.Found.{find-each, find-none, find-passes}
use Rattle.define_pools.proofs.Sums.{total, total_eq, total_ext, total_le, total-zero, one_if, count_by-total}
use Rattle.define_pools.specs.Lists.{includes, is_increasing}
use Rattle.define_pools.specs.Pool.{Pool, Volunteer, volunteer, is_same_household, share_household, keeps_households}
use Rattle.define_pools.proofs.Weights.{total_panel}
use Rattle.define_searches.specs.Classes.{MakesClasses, shared_household}
use Rattle.define_searches.specs.Compositions.{is_of_household}

-- ---- who shares a household

-- if two volunteers share a household, their household names are equal
pub same_name : (a b : Option (List ℕ)) → is_same_household a b ≡ true → a ≡ b
same_name None b h = absurd (false≢true h)
same_name (Some name) None h = absurd (false≢true h)
same_name (Some name) (Some other) h = ap Some ((bytes_eq-Decides name other).0 h)

named : (a b : Option (List ℕ)) → is_same_household a b ≡ true → is_same_household a a ≡ true
named None b h = h
named (Some name) b h = (bytes_eq-Decides name name).1 refl

find_agrees : (p q : ℕ → Bool) → ((k : ℕ) → p k ≡ q k) → (xs : List ℕ) → find p xs ≡ find q xs
find_agrees p q e [] = refl
find_agrees p q e (x ∷ xs) = let here = e x in let rest = find_agrees p q e xs in rw (here, rest) refl

module _ (volunteers : List Volunteer) where
  abbrev share : ℕ → ℕ → Bool
  share = share_household volunteers

  abbrev everybody : List ℕ
  everybody = range_with_len 0 (length volunteers)

  abbrev household : ℕ → Option (List ℕ)
  household i = (volunteer volunteers i).household

  same_household : (i j : ℕ) → share i j ≡ true → household i ≡ household j
  same_household i j h = same_name (household i) (household j) h

  pub share_back : (i j : ℕ) → share i j ≡ true → share j i ≡ true
  share_back i j h =
      let same = same_household i j h in
      subst (λ name. is_same_household name (household i) ≡ true) same (named (household i) (household j) h)

  share_along : (i j k : ℕ) → share i j ≡ true → share i k ≡ share j k
  share_along i j k h = ap (λ name. is_same_household name (household k)) (same_household i j h)

  -- volunteers who share a household have the same household number
  pub share_number : (i j : ℕ) → share i j ≡ true → shared_household volunteers i ≡ shared_household volunteers j
  share_number i j h =
      let count = total_ext (λ k. one_if (share i k)) (λ k. one_if (share j k)) (λ k. ap one_if (share_along i j k h)) everybody in
      let many : count_by (share i) everybody ≡ count_by (share j) everybody = count_by-total (share i) everybody ∙ count ∙ sym (count_by-total (share j) everybody) in
      let found = find_agrees (share i) (share j) (λ k. share_along i j k h) everybody in
      rw (many, found) refl

  -- a household number is the number of the first volunteer who shares the household
  number_is : (i h : ℕ) → shared_household volunteers i ≡ Some h → find (share i) everybody ≡ Some h
  number_is i h e =
      (elim (leb 2 (count_by (share i) everybody)) as (λ b. cond b (find (share i) everybody) None ≡ Some h → find (share i) everybody ≡ Some h) [
        | true ↦ λ e. e
        | false ↦ λ e. absurd (none e)
      ]) e
    where
      none : None ≡ Some h → ⊥
      none e = cc

  -- a volunteer with a household number shares the household with the volunteer of that number
  pub number_shares : (i h : ℕ) → shared_household volunteers i ≡ Some h → share i h ≡ true
  number_shares i h e = find-passes (share i) everybody h (number_is i h e)

  -- a household number is the number of a volunteer
  pub number_below : (i h : ℕ) → shared_household volunteers i ≡ Some h → h < length volunteers
  number_below i h e = find-each (share i) (λ k. k < length volunteers) everybody h (each_range (λ k. k < length volunteers) 0 (length volunteers) (λ k low high. omega arith)) (number_is i h e)

  -- a volunteer without a household number shares a household with nobody else
  pub alone_members : (i : ℕ) → shared_household volunteers i ≡ None → total (λ k. one_if (share i k)) everybody ≤ 1
  alone_members i e = ⊎_elim (λ (few : count_by (share i) everybody < 2). omega (arith, count_by-total (share i) everybody))
      (λ (many : 2 ≤ count_by (share i) everybody).
      let yes = le-leb 2 (count_by (share i) everybody) many in
      let nobody = find-none (share i) everybody (rw yes at e) in
      let none = total_eq (λ k. one_if (share i k)) (λ k. 0) everybody (each_map (λ k. share i k ≡ false) (λ k. one_if (share i k) ≡ 0) (λ k f. ap one_if f) everybody nobody) in
      absurd (omega (arith, none, total-zero (λ k. 0) (λ (k : ℕ). refl) everybody, count_by-total (share i) everybody)))
      (cases_lt (count_by (share i) everybody) 2)

  of_number : (h : ℕ) (found : Option ℕ) → is_of_household h found ≡ true → found ≡ Some h
  of_number h None e = absurd (false≢true e)
  of_number h (Some k) e = ap Some (eqb-true k h e)

  -- ---- panels

  implied_le : (a b : Bool) → (a ≡ true → b ≡ true) → one_if a ≤ one_if b
  implied_le true b f = let t = f refl in rw t (le_of_eq refl)
  implied_le false b f = omega arith

  -- if `q` relates any two elements that pass `p`, and each element of `xs` to at most one of `whole`, then no element of `xs` passes, or
  -- at most one of `whole` does
  one_at_most : (p : ℕ → Bool) (q : ℕ → ℕ → Bool) → ((i j : ℕ) → p i ≡ true → p j ≡ true → q i j ≡ true) → (whole xs : List ℕ) →
      AllByRecursion (λ i. total (λ j. one_if (q i j)) whole ≤ 1) xs → (total (λ j. one_if (p j)) xs ≡ 0) ⊎ (total (λ j. one_if (p j)) whole ≤ 1)
  one_at_most p q related whole [] once = inl refl
  one_at_most p q related whole (x ∷ xs) once =
      let rest = one_at_most p q related whole xs once.1 in
      (elim (p x) as (λ b. p x ≡ b → (one_if b + total (λ j. one_if (p j)) xs ≡ 0) ⊎ (total (λ j. one_if (p j)) whole ≤ 1)) [
        | true ↦ λ t.
            let le = total_le (λ j. one_if (p j)) (λ j. one_if (q x j)) whole (each_everywhere (λ j. one_if (p j) ≤ one_if (q x j)) (λ j. implied_le (p j) (q x j) (related x j t)) whole) in
            let one = once.0 in inr (omega arith)
        | false ↦ λ f. ⊎_elim (λ (none : total (λ j. one_if (p j)) xs ≡ 0). inl (omega arith)) (λ (few : total (λ j. one_if (p j)) whole ≤ 1). inr few) rest
      ]) refl

  -- a panel that keeps the household rule has at most one member with each household number
  pub one_of_number : (panel : List ℕ) (h : ℕ) → keeps_households volunteers panel ≡ true →
      count_by (λ i. is_of_household h (shared_household volunteers i)) panel ≤ 1
  one_of_number panel h keeps =
      let p : ℕ → Bool = λ i. is_of_household h (shared_household volunteers i) in
      let once = each_map (λ i. leb (count_by (share i) panel) 1 ≡ true) (λ i. total (λ j. one_if (share i j)) panel ≤ 1)
      (λ i e. let few = leb-true (count_by (share i) panel) 1 e in omega (arith, few, count_by-total (share i) panel)) panel
      (each_from_list_all (λ i. leb (count_by (share i) panel) 1) panel keeps) in
      let same = count_by-total p panel in
      ⊎_elim (λ (none : total (λ j. one_if (p j)) panel ≡ 0). omega arith) (λ (few : total (λ j. one_if (p j)) panel ≤ 1). omega arith)
      (one_at_most p share (λ i j a b.
      let to_number = number_shares i h (of_number h (shared_household volunteers i) a) in
      let from_number = number_shares j h (of_number h (shared_household volunteers j) b) in
      sym (share_along h i j (share_back i h to_number)) ∙ share_back j h from_number) panel panel once)

  -- a panel that has at most one member with each household number keeps the household rule
  pub households_kept : (panel : List ℕ) → is_increasing panel ≡ true → list_all (λ i. ltb i (length volunteers)) panel ≡ true →
      AllByRecursion (λ i. (h : ℕ) → shared_household volunteers i ≡ Some h → count_by (λ j. is_of_household h (shared_household volunteers j)) panel ≤ 1) panel →
      keeps_households volunteers panel ≡ true
  households_kept panel up below once =
      list_all_from_each (λ i. leb (count_by (share i) panel) 1) panel
      (each_map (λ i. (h : ℕ) → shared_household volunteers i ≡ Some h → count_by (λ j. is_of_household h (shared_household volunteers j)) panel ≤ 1) (λ i. leb (count_by (share i) panel) 1 ≡ true)
      (λ i at. le-leb (count_by (share i) panel) 1 (few i at (shared_household volunteers i) refl)) panel once)
    where
      few : (i : ℕ) → ((h : ℕ) → shared_household volunteers i ≡ Some h → count_by (λ j. is_of_household h (shared_household volunteers j)) panel ≤ 1) →
          (number : Option ℕ) → shared_household volunteers i ≡ number → count_by (share i) panel ≤ 1
      few i at None e =
          let panel_is = total_panel (λ j. one_if (share i j)) (length volunteers) panel up below in
          let le = total_le (λ j. cond (includes panel j) (one_if (share i j)) 0) (λ j. one_if (share i j)) everybody
          (each_everywhere (λ j. cond (includes panel j) (one_if (share i j)) 0 ≤ one_if (share i j)) (λ j. at_most (includes panel j) (one_if (share i j))) everybody) in
          omega (arith, alone_members i e, count_by-total (share i) panel, panel_is, le)
        where
          at_most : (b : Bool) (v : ℕ) → cond b v 0 ≤ v
          at_most true v = le_of_eq refl
          at_most false v = omega arith
      few i at (Some h) e =
          let p : ℕ → Bool = λ j. is_of_household h (shared_household volunteers j) in
          let le = total_le (λ j. one_if (share i j)) (λ j. one_if (p j)) panel
          (each_everywhere (λ j. one_if (share i j) ≤ one_if (p j)) (λ j. implied_le (share i j) (p j) (λ t. has_number j (sym (share_number i j t) ∙ e))) panel) in
          omega (arith, at h e, le, count_by-total (share i) panel, count_by-total p panel)
        where
          has_number : (j : ℕ) → shared_household volunteers j ≡ Some h → is_of_household h (shared_household volunteers j) ≡ true
          has_number j e = ap (is_of_household h) e ∙ eq-eqb h h refl

-- alike volunteers have the same household number
pub alike_number : (pool : Pool) (alike : ℕ → ℕ → Bool) → MakesClasses pool alike → (i j : ℕ) → alike i j ≡ true →
    shared_household pool.volunteers i ≡ shared_household pool.volunteers j
alike_number pool alike makes i j t = by (shared_household pool.volunteers i) (shared_household pool.volunteers j) refl refl
  where
    number : ℕ → Option ℕ
    number = shared_household pool.volunteers

    by : (a b : Option ℕ) → number i ≡ a → number j ≡ b → number i ≡ number j
    by (Some h) b e f =
        let some : is_some (number i) ≡ true = ap is_some e in ap number (makes.alone i j t some)
    by None (Some h) e f =
        let some : is_some (number j) ≡ true = ap is_some f in ap number (sym (makes.alone j i (makes.same.back i j t) some))
    by None None e f = e ∙ sym f
