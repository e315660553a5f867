-- The classes of a pool have the same compositions and the same first panels as in LeaderForm, where each class is given by its leader.
use Rattle.std.proofs.Common.{◌≡◌, ℕ, zero, suc, ◌+◌, ◌*◌, ◌≤◌, ◌<◌, Bool, true, false, cond, ◌&&◌, eqb, leb, ltb, List, [], ◌∷◌, map, length, filter, take, count_by, sum_by, slice_index, Option, None, Some, refl, sym, ap, ◌∙◌, ⊎_elim, arith, subst}
use Rattle.std.specs.Prelude.{MatchOption, ◌↔◌, slice_get}
use Rattle.std.specs.List.{flat_map, list_all, AllByRecursion, range_with_len, enumerate_from}
use Rattle.std.proofs.lemmas.Bool.{cases_Bool, eq-eqb, ne_eqb, false≢true, le-ltb, lt-ltb}
use Rattle.std.proofs.lemmas.List.Elements.{filter_agree}
use Rattle.std.proofs.Math.Bool.{and-false, or-false}
use Rattle.std.proofs.lemmas.List.Folds.{list_all-map}
use Rattle.define_pools.proofs.Tests.{ltb-more}
use Rattle.define_pools.proofs.Each.{each_map, each_mapped, each_filter, each_everywhere, each_range, list_all_equal}
use Rattle.define_pools.proofs.Sums.{total, total_eq, total_ext, sum_by-is-total, one_if, length-filter-total, count_by-total}
use Rattle.define_pools.proofs.Lists.{filter_range_same}
use Rattle.define_pools.specs.Lists.{includes, is_increasing}
use Rattle.define_pools.specs.Pool.{Pool, volunteer, is_within, is_quota_panel, panels}
use Rattle.define_pools.proofs.AllPanels.{each_panel}
use Rattle.define_searches.specs.Classes.{Class, Classes, IsSearchable, MakesClasses, leaders, class_of, class_by, classes_by, shared_household}
use Rattle.define_searches.specs.Compositions.{counts_of, has_value, is_of_household, lies_within, takes_one_of, takes_one_a_household, is_taken, composition_of, first_panel, compositions, all_counts, taken_of, is_composition}
use Rattle.define_searches.specs.Visits.{first_search}
use Rattle.define_searches.proofs.FirstSearch.{search_finds_first}
use Rattle.define_searches.proofs.LeaderForm as by_leader
use Rattle.define_searches.proofs.ByClass.{taken, by_class, one_leader}
use Rattle.define_searches.proofs.PanelCompositions.{no_panel}
use Rattle.define_searches.proofs.FirstPanel.{FitsAndComposes, filter_increases, holds_filter, each_first_panel}
use Rattle.define_searches.proofs.LeaderPanels.{least_to_most}

-- ---- the classes are `IsSearchable`: the least of each is at most its most

pub classes_in_order : (pool : Pool) (alike : ℕ → ℕ → Bool) → IsSearchable (classes_by alike pool)
classes_in_order pool alike = record {
  in_order = each_mapped (λ class. class.least ≤ class.most) (class_by alike pool) (leaders alike (length pool.volunteers))
      (each_everywhere (λ l. (class_by alike pool l).least ≤ (class_by alike pool l).most)
      (λ l. least_to_most (volunteer pool.volunteers l).standing (length (class_of alike (length pool.volunteers) l))) (leaders alike (length pool.volunteers)));
}

-- ---- compositions

all_mapped : {X Y : Type 0} (p : ℕ × Y → Bool) (f : X → Y) (first : ℕ) (xs : List X) → list_all p (enumerate_from first (map f xs)) ≡ list_all (λ (i, x). p (i, f x)) (enumerate_from first xs)
all_mapped p f first [] = refl
all_mapped p f first (x ∷ xs) = let rest = all_mapped p f (first + 1) xs in rw rest refl

module _ (pool : Pool) (alike : ℕ → ℕ → Bool) where
  abbrev n : ℕ
  n = length pool.volunteers

  abbrev of_leader : ℕ → Class
  of_leader = class_by alike pool

  abbrev firsts : List ℕ
  firsts = leaders alike n

  counts_same : (xs : List ℕ) → all_counts (map of_leader xs) ≡ by_leader.all_counts (λ l. (of_leader l).least) (λ l. (of_leader l).most) xs
  counts_same [] = refl
  counts_same (l ∷ xs) = ap (λ rest. flat_map (λ c. map (λ counts. c ∷ counts) rest) (counts_of (of_leader l))) (counts_same xs)

  pub taken_same : (passes : Class → Bool) (xs counts : List ℕ) → taken_of passes (map of_leader xs) counts ≡ by_leader.taken_of (λ l. passes (of_leader l)) xs counts
  taken_same passes [] counts = refl
  taken_same passes (l ∷ xs) [] = refl
  taken_same passes (l ∷ xs) (c ∷ counts) = ap (λ rest. cond (passes (of_leader l)) c 0 + rest) (taken_same passes xs counts)

  one_of_same : (counts : List ℕ) (number : Option ℕ) → takes_one_of (map of_leader firsts) counts number ≡ by_leader.takes_one_of pool firsts counts number
  one_of_same counts None = refl
  one_of_same counts (Some h) = ap (λ taken. leb taken 1) (taken_same (λ class. is_of_household h class.household) firsts counts)

  households_same : (counts : List ℕ) → takes_one_a_household (map of_leader firsts) counts ≡ by_leader.takes_one_a_household pool firsts counts
  households_same counts =
      list_all-map (λ class. takes_one_of (map of_leader firsts) counts class.household) of_leader firsts
      ∙ list_all_equal (λ l. takes_one_of (map of_leader firsts) counts (of_leader l).household) (λ l. by_leader.takes_one_of pool firsts counts (shared_household pool.volunteers l))
      (λ l. one_of_same counts (shared_household pool.volunteers l)) firsts

  composition_same : (counts : List ℕ) → is_composition (classes_by alike pool) counts ≡ by_leader.is_composition pool firsts counts
  composition_same counts =
      let bounds =
      all_mapped (λ (c, values). list_all (λ (v, bound). lies_within bound (taken_of (has_value c v) (map of_leader firsts) counts)) (enumerate_from 0 values))
      (λ category. map (λ value. record { lower = value.lower; upper = value.upper }) category.values) 0 pool.categories
      ∙ list_all_equal
      (λ (c, category). list_all (λ (v, bound). lies_within bound (taken_of (has_value c v) (map of_leader firsts) counts)) (enumerate_from 0 (map (λ value. record { lower = value.lower; upper = value.upper }) category.values)))
      (λ (c, category). list_all (λ (v, value). is_within value (by_leader.taken_of (λ leader. eqb (slice_index (volunteer pool.volunteers leader).values c) v) firsts counts)) (enumerate_from 0 category.values))
      (λ (c, category).
      all_mapped (λ (v, bound). lies_within bound (taken_of (has_value c v) (map of_leader firsts) counts)) (λ value. record { lower = value.lower; upper = value.upper }) 0 category.values
      ∙ list_all_equal
      (λ (v, value). is_within value (taken_of (has_value c v) (map of_leader firsts) counts))
      (λ (v, value). is_within value (by_leader.taken_of (λ leader. eqb (slice_index (volunteer pool.volunteers leader).values c) v) firsts counts))
      (λ (v, value). ap (is_within value) (taken_same (has_value c v) firsts counts)) (enumerate_from 0 category.values))
      (enumerate_from 0 pool.categories) in
      rw (taken_same (λ class. true) firsts counts, bounds, households_same counts) refl

  pub compositions_same : compositions (classes_by alike pool) ≡ by_leader.compositions pool alike
  compositions_same =
      filter_agree (is_composition (classes_by alike pool)) (by_leader.is_composition pool firsts) composition_same (all_counts (map of_leader firsts))
      ∙ ap (filter (by_leader.is_composition pool firsts)) (counts_same firsts)

  pub no_panel_of_classes : MakesClasses pool alike → compositions (classes_by alike pool) ≡ [] → panels pool ≡ []
  no_panel_of_classes makes none = no_panel pool alike makes (sym compositions_same ∙ none)

-- ---- the first members of classes

-- if `i` is below `first`, a filtered range from `first` doesn't contain `i`
not_before : (p : ℕ → Bool) (i c first count : ℕ) → i < first → includes (take c (filter p (range_with_len first count))) i ≡ false
not_before p i c first zero l = nothing c
  where
    nothing : (c : ℕ) → includes (take c []) i ≡ false
    nothing zero = refl
    nothing (suc c) = refl
not_before p i c first (suc count) l =
    let e : eqb first i ≡ false = ne_eqb first i (λ e. omega arith) in
    let rest : (c : ℕ) → includes (take c (filter p (range_with_len (first + 1) count))) i ≡ false = λ c. not_before p i c (first + 1) count (omega arith) in
    elim (p first) as (λ b. includes (take c (cond b (first ∷ filter p (range_with_len (first + 1) count)) (filter p (range_with_len (first + 1) count)))) i ≡ false) [
      | true ↦ with_first c e rest
      | false ↦ rest c
    ]
  where
    with_first : (c : ℕ) → eqb first i ≡ false → ((c : ℕ) → includes (take c (filter p (range_with_len (first + 1) count))) i ≡ false) → includes (take c (first ∷ filter p (range_with_len (first + 1) count))) i ≡ false
    with_first zero e rest = refl
    with_first (suc c) e rest = let r = rest c in rw (e, r) refl

-- `first + d` is among the first `c` numbers of a range that pass iff it passes and fewer than `c` numbers of the range before it do
first_holds : (p : ℕ → Bool) (c first count d : ℕ) → d < count →
    includes (take c (filter p (range_with_len first count))) (first + d) ≡ (p (first + d) && ltb (total (λ j. one_if (p j)) (range_with_len first d)) c)
first_holds p c first zero d l = absurd (omega arith)
first_holds p c first (suc count) zero l =
    let s : first + 0 ≡ first = omega arith in
    rw s ((elim (p first) as (λ b. includes (take c (cond b (first ∷ filter p (range_with_len (first + 1) count)) (filter p (range_with_len (first + 1) count)))) first ≡ (b && ltb 0 c)) [
      | true ↦ here c
      | false ↦ not_before p first c (first + 1) count (omega arith)
    ]))
  where
    here : (c : ℕ) → includes (take c (first ∷ filter p (range_with_len (first + 1) count))) first ≡ ltb 0 c
    here zero = refl
    here (suc c) = let e : eqb first first ≡ true = eq-eqb first first refl in rw e (sym (lt-ltb 0 (suc c) (omega arith)))
first_holds p c first (suc count) (suc d) l =
    let s : first + suc d ≡ first + 1 + d = omega arith in
    let rest : (c : ℕ) → includes (take c (filter p (range_with_len (first + 1) count))) (first + 1 + d) ≡ (p (first + 1 + d) && ltb (total (λ j. one_if (p j)) (range_with_len (first + 1) d)) c) =
    λ c. first_holds p c (first + 1) count d (omega arith) in
    let e : eqb first (first + 1 + d) ≡ false = ne_eqb first (first + 1 + d) (λ e. omega arith) in
    rw s (elim (p first) as (λ b. includes (take c (cond b (first ∷ filter p (range_with_len (first + 1) count)) (filter p (range_with_len (first + 1) count)))) (first + 1 + d)
    ≡ (p (first + 1 + d) && ltb (one_if b + total (λ j. one_if (p j)) (range_with_len (first + 1) d)) c)) [
      | true ↦ after c e rest
      | false ↦ let z : 0 + total (λ j. one_if (p j)) (range_with_len (first + 1) d) ≡ total (λ j. one_if (p j)) (range_with_len (first + 1) d) = omega arith in rw z (rest c)
    ])
  where
    after : (c : ℕ) → eqb first (first + 1 + d) ≡ false →
        ((c : ℕ) → includes (take c (filter p (range_with_len (first + 1) count))) (first + 1 + d) ≡ (p (first + 1 + d) && ltb (total (λ j. one_if (p j)) (range_with_len (first + 1) d)) c)) →
        includes (take c (first ∷ filter p (range_with_len (first + 1) count))) (first + 1 + d) ≡ (p (first + 1 + d) && ltb (1 + total (λ j. one_if (p j)) (range_with_len (first + 1) d)) c)
    after zero e rest =
        let none : ltb (1 + total (λ j. one_if (p j)) (range_with_len (first + 1) d)) 0 ≡ false = le-ltb (1 + total (λ j. one_if (p j)) (range_with_len (first + 1) d)) 0 (omega arith) in
        rw none (sym (and-false (p (first + 1 + d))))
    after (suc c) e rest = let r = rest c in let z = ltb-more (total (λ j. one_if (p j)) (range_with_len (first + 1) d)) c in rw (e, z) r

module _ (pool : Pool) (alike : ℕ → ℕ → Bool) (makes : MakesClasses pool alike) where
  abbrev many : ℕ
  many = length pool.volunteers

  abbrev class_at : ℕ → Class
  class_at = class_by alike pool

  -- how many volunteers alike to volunteer i have a lower number
  abbrev before : ℕ → ℕ
  before i = count_by (alike i) (range_with_len 0 i)

  alike_as : (l i j : ℕ) → alike l i ≡ true → alike l j ≡ alike i j
  alike_as l i j t = ⊎_elim (λ (p : alike i j ≡ true). makes.same.along l i j t p ∙ sym p)
      (λ (p : alike i j ≡ false). ⊎_elim (λ (q : alike l j ≡ true). absurd (false≢true (sym p ∙ makes.same.along i l j (makes.same.back l i t) q))) (λ (q : alike l j ≡ false). q ∙ sym p) (cases_Bool (alike l j)))
      (cases_Bool (alike i j))

  held : (l c i : ℕ) → i < many → includes (take c (class_of alike many l)) i ≡ (alike l i && ltb (before i) c)
  held l c i below =
      let s : 0 + i ≡ i = omega arith in
      let here : includes (take c (class_of alike many l)) i ≡ (alike l i && ltb (total (λ j. one_if (alike l j)) (range_with_len 0 i)) c) =
      subst (λ k. includes (take c (class_of alike many l)) k ≡ (alike l k && ltb (total (λ j. one_if (alike l j)) (range_with_len 0 i)) c)) s (first_holds (alike l) c 0 many i below) in
      ⊎_elim (λ (t : alike l i ≡ true).
      let same : total (λ j. one_if (alike l j)) (range_with_len 0 i) ≡ before i =
      total_ext (λ j. one_if (alike l j)) (λ j. one_if (alike i j)) (λ j. ap one_if (alike_as l i j t)) (range_with_len 0 i) ∙ sym (count_by-total (alike i) (range_with_len 0 i)) in
      here ∙ ap (λ k. alike l i && ltb k c) same)
      (λ (f : alike l i ≡ false). let h : includes (take c (class_of alike many l)) i ≡ false = here ∙ ap (λ b. b && ltb (total (λ j. one_if (alike l j)) (range_with_len 0 i)) c) f in rw (h, f) refl)
      (cases_Bool (alike l i))

  none_alike : (i : ℕ) → i < many → (xs counts : List ℕ) → total (λ l. one_if (alike l i)) xs ≡ 0 →
      (is_taken (map class_at xs) counts i ≡ false) × (by_leader.taken_of (λ l. alike l i) xs counts ≡ 0)
  none_alike i below [] counts z = (refl, refl)
  none_alike i below (l ∷ xs) [] z = (refl, refl)
  none_alike i below (l ∷ xs) (c ∷ counts) z =
      (elim (alike l i) as (λ b. alike l i ≡ b → one_if b + total (λ l. one_if (alike l i)) xs ≡ 0 →
      (is_taken (map class_at (l ∷ xs)) (c ∷ counts) i ≡ false) × (by_leader.taken_of (λ l. alike l i) (l ∷ xs) (c ∷ counts) ≡ 0)) [
        | true ↦ λ t z. absurd (omega arith)
        | false ↦ λ f z.
            let rest = none_alike i below xs counts (omega arith) in
            let h : includes (take c (class_of alike many l)) i ≡ false = held l c i below ∙ ap (λ b. b && ltb (before i) c) f in
            let a = rest.0 in let b = rest.1 in
            (rw (h, a) refl, rw f (omega (arith, b)))
      ]) refl z

  taken_by_one : (i : ℕ) → i < many → (xs counts : List ℕ) → total (λ l. one_if (alike l i)) xs ≤ 1 →
      is_taken (map class_at xs) counts i ≡ ltb (before i) (by_leader.taken_of (λ l. alike l i) xs counts)
  taken_by_one i below [] counts z = sym (le-ltb (before i) 0 (omega arith))
  taken_by_one i below (l ∷ xs) [] z = sym (le-ltb (before i) 0 (omega arith))
  taken_by_one i below (l ∷ xs) (c ∷ counts) z =
      (elim (alike l i) as (λ b. alike l i ≡ b → one_if b + total (λ l. one_if (alike l i)) xs ≤ 1 →
      is_taken (map class_at (l ∷ xs)) (c ∷ counts) i ≡ ltb (before i) (by_leader.taken_of (λ l. alike l i) (l ∷ xs) (c ∷ counts))) [
        | true ↦ λ t z.
            let rest = none_alike i below xs counts (omega arith) in
            let h : includes (take c (class_of alike many l)) i ≡ ltb (before i) c = held l c i below ∙ ap (λ b. b && ltb (before i) c) t in
            let a = rest.0 in let b = rest.1 in
            let s : c + 0 ≡ c = omega arith in
            rw (h, a, t, b, s) (or-false (ltb (before i) c))
        | false ↦ λ f z.
            let rest = taken_by_one i below xs counts (omega arith) in
            let h : includes (take c (class_of alike many l)) i ≡ false = held l c i below ∙ ap (λ b. b && ltb (before i) c) f in
            let s : 0 + by_leader.taken_of (λ l. alike l i) xs counts ≡ by_leader.taken_of (λ l. alike l i) xs counts = omega arith in
            rw (h, f, s) rest
      ]) refl z

  -- the classes together have as many members as there are volunteers
  pub members_in_all : sum_by (λ class. length class.members) (map class_at (leaders alike many)) ≡ many
  members_in_all =
      sum_by-is-total (λ class. length class.members) (map class_at (leaders alike many))
      ∙ each_size (leaders alike many)
      ∙ sym (by_class alike makes.same many (λ i. 1) (λ i j a b e. refl) (range_with_len 0 many) (each_range (λ i. i < many) 0 many (λ k l m. omega arith)))
      ∙ ones 0 many
    where
      each_size : (xs : List ℕ) → total (λ class. length class.members) (map class_at xs) ≡ total (λ l. taken alike l (range_with_len 0 many) * 1) xs
      each_size [] = refl
      each_size (l ∷ xs) = omega (arith, length-filter-total (alike l) (range_with_len 0 many), each_size xs)

      ones : (first count : ℕ) → total (λ i. 1) (range_with_len first count) ≡ count
      ones first zero = refl
      ones first (suc count) = omega (arith, ones (first + 1) count)

  pub first_panel_same : (counts : List ℕ) → first_panel (classes_by alike pool) counts ≡ by_leader.first_panel alike many counts
  first_panel_same counts =
      ap (λ k. filter (is_taken (map class_at (leaders alike many)) counts) (range_with_len 0 k)) members_in_all
      ∙ filter_range_same (is_taken (map class_at (leaders alike many)) counts) (λ i. ltb (before i) (by_leader.taken_of (λ l. alike l i) (leaders alike many) counts)) 0 many
      (λ i below. taken_by_one i (omega arith) (leaders alike many) counts (omega (arith, one_leader alike makes.same many i (omega arith))))

  pub first_panels_fit : AllByRecursion (λ counts. is_quota_panel pool (first_panel (classes_by alike pool) counts) ≡ true) (compositions (classes_by alike pool))
  first_panels_fit =
      subst (λ all. AllByRecursion (λ counts. is_quota_panel pool (first_panel (classes_by alike pool) counts) ≡ true) all) (sym (compositions_same pool alike))
      (each_map (FitsAndComposes pool alike) (λ counts. is_quota_panel pool (first_panel (classes_by alike pool) counts) ≡ true)
      (λ counts fits. let e = first_panel_same counts in rw e fits.0) (by_leader.compositions pool alike) (each_first_panel pool alike makes))

  -- the members of a class are the volunteers alike to its leader, so a panel's composition is the same in both forms
  pub composition_of_same : (panel : List ℕ) → AllByRecursion (λ i. i < many) panel → (xs : List ℕ) → map (λ class. count_by (includes class.members) panel) (map class_at xs) ≡ by_leader.composition_of alike xs panel
  composition_of_same panel below [] = refl
  composition_of_same panel below (l ∷ xs) =
      let here : count_by (includes (class_of alike many l)) panel ≡ count_by (alike l) panel =
      count_by-total (includes (class_of alike many l)) panel
      ∙ total_eq (λ i. one_if (includes (class_of alike many l) i)) (λ i. one_if (alike l i)) panel
      (each_map (λ i. i < many) (λ i. one_if (includes (class_of alike many l) i) ≡ one_if (alike l i)) (λ i b. ap one_if (holds_filter (alike l) i 0 many (omega arith) (omega arith))) panel below)
      ∙ sym (count_by-total (alike l) panel) in
      let rest = composition_of_same panel below xs in rw (here, rest) refl

  pub first_panels_compose : AllByRecursion (λ counts. composition_of (classes_by alike pool) (first_panel (classes_by alike pool) counts) ≡ counts) (compositions (classes_by alike pool))
  first_panels_compose =
      subst (λ all. AllByRecursion (λ counts. composition_of (classes_by alike pool) (first_panel (classes_by alike pool) counts) ≡ counts) all) (sym (compositions_same pool alike))
      (each_map (FitsAndComposes pool alike) (λ counts. composition_of (classes_by alike pool) (first_panel (classes_by alike pool) counts) ≡ counts)
      (λ counts fits. let e = first_panel_same counts in rw e (composition_of_same (by_leader.first_panel alike many counts) (below counts) (leaders alike many) ∙ fits.1))
      (by_leader.compositions pool alike) (each_first_panel pool alike makes))
    where
      below : (counts : List ℕ) → AllByRecursion (λ i. i < many) (by_leader.first_panel alike many counts)
      below counts = each_filter (λ i. i < many) (λ i. ltb (before i) (by_leader.taken_of (λ l. alike l i) (leaders alike many) counts)) (range_with_len 0 many)
          (each_range (λ i. ltb (before i) (by_leader.taken_of (λ l. alike l i) (leaders alike many) counts) ≡ true → i < many) 0 many (λ i from below taken. omega arith))

pub first_panel_rises : (all : Classes) (counts : List ℕ) → is_increasing (first_panel all counts) ≡ true
first_panel_rises all counts = filter_increases (is_taken all.classes counts) 0 (sum_by (λ class. length class.members) all.classes)

-- ---- what the first search shows about the pool

from_first : (P : List ℕ → Type 0) (Q : Type 0) (xs : List (List ℕ)) → (xs ≡ [] → Q) → AllByRecursion P xs → MatchOption (slice_get xs 0) Q P
from_first P Q [] f h = f refl
from_first P Q (x ∷ xs) f h = h.0

pub search_answers : (pool : Pool) (alike : ℕ → ℕ → Bool) → MakesClasses pool alike → MatchOption (first_search (classes_by alike pool)).found
    (panels pool ≡ []) (λ counts. is_quota_panel pool (first_panel (classes_by alike pool) counts) ≡ true)
search_answers pool alike makes =
    let found = search_finds_first (classes_by alike pool) (classes_in_order pool alike) in
    rw found (from_first (λ counts. is_quota_panel pool (first_panel (classes_by alike pool) counts) ≡ true) (panels pool ≡ []) (compositions (classes_by alike pool))
    (no_panel_of_classes pool alike makes) (first_panels_fit pool alike makes))

pub search_finds_none : (pool : Pool) (alike : ℕ → ℕ → Bool) → MakesClasses pool alike → (first_search (classes_by alike pool)).found ≡ None ↔ panels pool ≡ []
search_finds_none pool alike makes = (λ e. rw e at (search_answers pool alike makes), λ none. still none (first_search (classes_by alike pool)).found (search_answers pool alike makes))
  where
    still : panels pool ≡ [] → (found : Option (List ℕ)) → MatchOption found (panels pool ≡ []) (λ counts. is_quota_panel pool (first_panel (classes_by alike pool) counts) ≡ true) → found ≡ None
    still none None h = refl
    still none (Some counts) h = absurd (each_panel (λ panel. ⊥) pool (rw none tt) (first_panel (classes_by alike pool) counts) h)
