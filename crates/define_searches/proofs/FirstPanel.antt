-- The first members of a composition's classes are a quota panel of that composition.
use Rattle.std.proofs.Common.{◌≡◌, ℕ, zero, suc, ◌+◌, ◌-◌, ◌≤◌, ◌<◌, min, Bool, true, false, cond, ◌&&◌, eqb, ltb, List, [], ◌∷◌, map, length, filter, count_by, refl, sym, ap, ◌∙◌, ⊎_elim, arith, subst}
use Rattle.std.specs.List.{list_all, AllByRecursion, range_with_len}
use Rattle.std.proofs.lemmas.Bool.{and_from, cases_Bool, cases_lt, cases_eq, eqb-true, eq-eqb, ne_eqb, lt-ltb, le-ltb, false≢true}
use Rattle.define_pools.proofs.Sums.{total, total_eq, total_ext, one_if, total-filter, length-filter-total, count_by-total}
use Rattle.define_pools.proofs.Each.{each_from_filter, each_map, each_range, range_each}
use Rattle.define_pools.proofs.Lists.{map_same}
use Rattle.define_pools.specs.declared.Standing.{Standing}
use Rattle.define_pools.specs.declared.Standing.TheVariants.{Open, Seated, Gone}
use Rattle.define_pools.specs.Lists.{includes, is_increasing}
use Rattle.define_pools.specs.Pool.{Pool, volunteer, is_quota_panel}
use Rattle.define_searches.specs.Classes.{leaders, class_of, least_taken, most_taken, IsEquivalenceTest, MakesClasses}
use Rattle.define_searches.proofs.LeaderForm.{compositions, composition_of, taken_of, is_composition, first_panel}
use Rattle.define_pools.proofs.Weights.{one_member}
use Rattle.define_searches.proofs.ByClass.{Least, least_passing, is_first, leads}
use Rattle.define_searches.proofs.LeaderPanels.{ByLeader, each_by_leader, panel_fits}

-- ---- filters of a range

pub filter_increases : (p : ℕ → Bool) (first count : ℕ) → is_increasing (filter p (range_with_len first count)) ≡ true
filter_increases p first zero = refl
filter_increases p first (suc count) =
    let rest = filter_increases p (first + 1) count in
    elim (p first) as (λ b. is_increasing (cond b (first ∷ filter p (range_with_len (first + 1) count)) (filter p (range_with_len (first + 1) count))) ≡ true) [
      | true ↦ and_from (list_all (λ y. ltb first y) (filter p (range_with_len (first + 1) count))) (is_increasing (filter p (range_with_len (first + 1) count))) (above p first (first + 1) count (omega arith)) rest
      | false ↦ rest
    ]
  where
    above : (p : ℕ → Bool) (x first count : ℕ) → x < first → list_all (λ y. ltb x y) (filter p (range_with_len first count)) ≡ true
    above p x first zero l = refl
    above p x first (suc count) l =
        let rest = above p x (first + 1) count (omega arith) in
        elim (p first) as (λ b. list_all (λ y. ltb x y) (cond b (first ∷ filter p (range_with_len (first + 1) count)) (filter p (range_with_len (first + 1) count))) ≡ true) [
          | true ↦ and_from (ltb x first) (list_all (λ y. ltb x y) (filter p (range_with_len (first + 1) count))) (lt-ltb x first l) rest
          | false ↦ rest
        ]

filter_below : (p : ℕ → Bool) (n first count : ℕ) → first + count ≤ n → list_all (λ i. ltb i n) (filter p (range_with_len first count)) ≡ true
filter_below p n first zero l = refl
filter_below p n first (suc count) l =
    let rest = filter_below p n (first + 1) count (omega arith) in
    elim (p first) as (λ b. list_all (λ i. ltb i n) (cond b (first ∷ filter p (range_with_len (first + 1) count)) (filter p (range_with_len (first + 1) count))) ≡ true) [
      | true ↦ and_from (ltb first n) (list_all (λ i. ltb i n) (filter p (range_with_len (first + 1) count))) (lt-ltb first n (omega arith)) rest
      | false ↦ rest
    ]

holds_before : (p : ℕ → Bool) (i first count : ℕ) → i < first → includes (filter p (range_with_len first count)) i ≡ false
holds_before p i first zero l = refl
holds_before p i first (suc count) l =
    let rest = holds_before p i (first + 1) count (omega arith) in
    let e : eqb first i ≡ false = ne_eqb first i (λ e. omega arith) in
    elim (p first) as (λ b. includes (cond b (first ∷ filter p (range_with_len (first + 1) count)) (filter p (range_with_len (first + 1) count))) i ≡ false) [
      | true ↦ rw e rest
      | false ↦ rest
    ]

-- a filtered range contains the numbers of the range that pass
pub holds_filter : (p : ℕ → Bool) (i first count : ℕ) → first ≤ i → i < first + count → includes (filter p (range_with_len first count)) i ≡ p i
holds_filter p i first zero l m = absurd (omega arith)
holds_filter p i first (suc count) l m =
    ⊎_elim (λ (e : first ≡ i).
    let none = holds_before p i (first + 1) count (omega arith) in
    let same : eqb first i ≡ true = eq-eqb first i e in
    let q : p first ≡ p i = ap p e in
    (elim (p first) as (λ b. b ≡ p i → includes (cond b (first ∷ filter p (range_with_len (first + 1) count)) (filter p (range_with_len (first + 1) count))) i ≡ p i) [
      | true ↦ λ q. rw same q
      | false ↦ λ q. none ∙ q
    ]) q)
    (λ (ne : first ≡ i → ⊥).
    let rest = holds_filter p i (first + 1) count (omega arith) (omega arith) in
    let other : eqb first i ≡ false = ne_eqb first i ne in
    elim (p first) as (λ b. includes (cond b (first ∷ filter p (range_with_len (first + 1) count)) (filter p (range_with_len (first + 1) count))) i ≡ p i) [
      | true ↦ rw other rest
      | false ↦ rest
    ]) (cases_eq first i)

-- lengthening a range by one number adds that number's term to the sum
total-range_more : (f : ℕ → ℕ) (first count : ℕ) → total f (range_with_len first (suc count)) ≡ total f (range_with_len first count) + f (first + count)
total-range_more f first zero = let e : first + 0 ≡ first = omega arith in rw e (omega arith)
total-range_more f first (suc count) =
    let rest = total-range_more f (first + 1) count in
    let e : first + 1 + count ≡ first + suc count = omega arith in
    let last : f (first + 1 + count) ≡ f (first + suc count) = ap f e in omega (arith, rest, last)

-- ---- the first members of a class

-- how many members of a class have a number below i
abbrev pub rank : (ℕ → Bool) → ℕ → ℕ
rank a i = total (λ j. one_if (a j)) (range_with_len 0 i)

chosen_one : (b : Bool) (K c : ℕ) → cond (ltb K c) (one_if b) 0 + min c K ≡ min c (K + one_if b)
chosen_one true K c = ⊎_elim (λ (l : K < c). let e = lt-ltb K c l in rw e (omega arith)) (λ (l : c ≤ K). let e = le-ltb K c l in rw e (omega arith)) (cases_lt K c)
chosen_one false K c = ⊎_elim (λ (l : K < c). let e = lt-ltb K c l in rw e (omega arith)) (λ (l : c ≤ K). let e = le-ltb K c l in rw e (omega arith)) (cases_lt K c)

first_some : (a : ℕ → Bool) (c count : ℕ) → total (λ i. cond (ltb (rank a i) c) (one_if (a i)) 0) (range_with_len 0 count) ≡ min c (rank a count)
first_some a c zero = omega arith
first_some a c (suc count) =
    let e : 0 + count ≡ count = omega arith in
    let more = total-range_more (λ i. cond (ltb (rank a i) c) (one_if (a i)) 0) 0 count in
    let upto = total-range_more (λ j. one_if (a j)) 0 count in
    let term : cond (ltb (rank a (0 + count)) c) (one_if (a (0 + count))) 0 ≡ cond (ltb (rank a count) c) (one_if (a count)) 0 = ap (λ z. cond (ltb (rank a z) c) (one_if (a z)) 0) e in
    let last : one_if (a (0 + count)) ≡ one_if (a count) = ap (λ z. one_if (a z)) e in
    omega (arith, first_some a c count, more, upto, term, last, chosen_one (a count) (rank a count) c)

pub rank_below : (a : ℕ → Bool) (i count : ℕ) → i < count → rank a i + one_if (a i) ≤ rank a count
rank_below a i zero l = absurd (omega arith)
rank_below a i (suc count) l =
    let more = total-range_more (λ j. one_if (a j)) 0 count in
    let e : 0 + count ≡ count = omega arith in
    let last : one_if (a (0 + count)) ≡ one_if (a count) = ap (λ z. one_if (a z)) e in
    ⊎_elim (λ (lt : i < count). let rest = rank_below a i count lt in omega (arith, rest, more))
    (λ (ge : count ≤ i). let s : i ≡ count = omega arith in rw s (omega (arith, more, last))) (cases_lt i count)

lift : (a b e : Bool) (v : ℕ) → cond a (one_if b) 0 ≡ cond e 1 0 → cond a (cond b v 0) 0 ≡ cond e v 0
lift true true true v h = refl
lift true true false v h = absurd (omega arith)
lift true false true v h = absurd (omega arith)
lift true false false v h = refl
lift false b true v h = absurd (omega arith)
lift false b false v h = refl

taken_by : (passes : ℕ → Bool) (g : ℕ → ℕ) (firsts : List ℕ) → taken_of passes firsts (map g firsts) ≡ total (λ l. cond (passes l) (g l) 0) firsts
taken_by passes g [] = refl
taken_by passes g (l ∷ firsts) = omega (arith, taken_by passes g firsts)

cond_zero : (b : Bool) → cond {A = ℕ} b 0 0 ≡ 0
cond_zero true = refl
cond_zero false = refl

module _ (alike : ℕ → ℕ → Bool) (same : IsEquivalenceTest alike) (count : ℕ) (g : ℕ → ℕ) where
  leader_of : (i : ℕ) → Least (λ j. alike j i) i
  leader_of i = least_passing (λ j. alike j i) i (same.itself i)

  abbrev firsts : List ℕ
  firsts = leaders alike count

  abbrev panel : List ℕ
  panel = first_panel alike count (map g firsts)

  -- the number of members taken of volunteer `i`'s class is the count of the class's leader
  own : (i : ℕ) → i < count → taken_of (λ l. alike l i) firsts (map g firsts) ≡ g (leader_of i).at
  unfolding leads
  own i l =
      let first = leader_of i in
      let inside : first.at < 0 + count = omega (arith, first.within) in
      taken_by (λ l. alike l i) g firsts
      ∙ total-filter (λ l. cond (alike l i) (g l) 0) (leads alike same count) (range_with_len 0 count)
      ∙ total_ext (λ j. cond (leads alike same count j) (cond (alike j i) (g j) 0) 0) (λ j. cond (eqb first.at j) (g j) 0)
      (λ j. lift (leads alike same count j) (alike j i) (eqb first.at j) (g j) (is_first alike same count i first j)) (range_with_len 0 count)
      ∙ one_member g first.at 0 count (omega arith) inside

  -- if `l` leads and `i` is alike to `l`, the leader of `i` is `l`
  leader_is : (l i : ℕ) → leads alike same count l ≡ true → alike l i ≡ true → (leader_of i).at ≡ l
  leader_is l i lead t =
      let e = is_first alike same count i (leader_of i) l in
      let one : ◌≡◌ {A = ℕ} 1 (cond (eqb (leader_of i).at l) 1 0) = rw (lead, t) at e in
      (elim (eqb (leader_of i).at l) as (λ b. eqb (leader_of i).at l ≡ b → ◌≡◌ {A = ℕ} 1 (cond b 1 0) → (leader_of i).at ≡ l) [
        | true ↦ λ q _. eqb-true (leader_of i).at l q
        | false ↦ λ q z. absurd (omega arith)
      ]) refl one

  alike_as : (l i j : ℕ) → alike l i ≡ true → alike i j ≡ alike l j
  alike_as l i j t = ⊎_elim (λ (p : alike i j ≡ true). p ∙ sym (same.along l i j t p))
      (λ (p : alike i j ≡ false). ⊎_elim (λ (q : alike l j ≡ true). absurd (false≢true (sym p ∙ same.along i l j (same.back l i t) q))) (λ (q : alike l j ≡ false). p ∙ sym q) (cases_Bool (alike l j)))
      (cases_Bool (alike i j))

  -- volunteer `i` is on the first panel if fewer members of `i`'s class have lower numbers than are taken of the class
  abbrev in_panel : ℕ → Bool
  in_panel i = ltb (count_by (alike i) (range_with_len 0 i)) (taken_of (λ leader. alike leader i) firsts (map g firsts))

  in_class : (l i : ℕ) → leads alike same count l ≡ true → i < count → alike l i ≡ true → in_panel i ≡ ltb (rank (alike l) i) (g l)
  in_class l i lead below t =
      let e : count_by (alike i) (range_with_len 0 i) ≡ rank (alike l) i = count_by-total (alike i) (range_with_len 0 i) ∙ total_ext (λ j. one_if (alike i j)) (λ j. one_if (alike l j)) (λ j. ap one_if (alike_as l i j t)) (range_with_len 0 i) in
      let f : taken_of (λ leader. alike leader i) firsts (map g firsts) ≡ g l = own i below ∙ ap g (leader_is l i lead t) in
      rw (e, f) refl

  term : (l i : ℕ) → leads alike same count l ≡ true → i < count → cond (in_panel i) (one_if (alike l i)) 0 ≡ cond (ltb (rank (alike l) i) (g l)) (one_if (alike l i)) 0
  term l i lead below = ⊎_elim
      (λ (t : alike l i ≡ true). ap (λ b. cond b (one_if (alike l i)) 0) (in_class l i lead below t))
      (λ (t : alike l i ≡ false). rw t (cond_zero (in_panel i) ∙ sym (cond_zero (ltb (rank (alike l) i) (g l))))) (cases_Bool (alike l i))

  -- if the class of leader `l` has at least `g l` members, the first panel has exactly `g l` of them
  takes : (l : ℕ) → leads alike same count l ≡ true → g l ≤ rank (alike l) count → count_by (alike l) panel ≡ g l
  takes l lead fits =
      let a = count_by-total (alike l) panel in
      let b = total-filter (λ i. one_if (alike l i)) in_panel (range_with_len 0 count) in
      let c = total_eq (λ i. cond (in_panel i) (one_if (alike l i)) 0) (λ i. cond (ltb (rank (alike l) i) (g l)) (one_if (alike l i)) 0) (range_with_len 0 count)
      (each_range (λ i. cond (in_panel i) (one_if (alike l i)) 0 ≡ cond (ltb (rank (alike l) i) (g l)) (one_if (alike l i)) 0) 0 count (λ i f m. term l i lead (omega arith))) in
      let d = first_some (alike l) (g l) count in omega (arith, a, b, c, d)

  -- if each class has enough members, the first panel has exactly `g l` members of the class of each leader `l`
  composition_is : ((l : ℕ) → l < count → leads alike same count l ≡ true → g l ≤ rank (alike l) count) → composition_of alike firsts panel ≡ map g firsts
  unfolding leads
  composition_is fits = map_same (λ l. count_by (alike l) panel) g firsts
      (each_filter_passes (λ l. count_by (alike l) panel ≡ g l) (leads alike same count) 0 count (λ l below lead. takes l lead (fits l (omega arith) lead)))
    where
      each_filter_passes : (P : ℕ → Type 0) (p : ℕ → Bool) (first many : ℕ) → ((l : ℕ) → l < first + many → p l ≡ true → P l) → AllByRecursion P (filter p (range_with_len first many))
      each_filter_passes P p first zero f = tt
      each_filter_passes P p first (suc many) f =
          let rest = each_filter_passes P p (first + 1) many (λ l m e. f l (omega arith) e) in
          (elim (p first) as (λ b. p first ≡ b → AllByRecursion P (cond b (first ∷ filter p (range_with_len (first + 1) many)) (filter p (range_with_len (first + 1) many)))) [
            | true ↦ λ e. (f first (omega arith) e, rest)
            | false ↦ λ e. rest
          ]) refl

-- ---- the first panel of each composition

-- the first panel of `counts` is a quota panel, and its composition is `counts`
abbrev pub FitsAndComposes : Pool → (ℕ → ℕ → Bool) → List ℕ → Type 0
FitsAndComposes pool alike counts =
    (is_quota_panel pool (first_panel alike (length pool.volunteers) counts) ≡ true)
    × (composition_of alike (leaders alike (length pool.volunteers)) (first_panel alike (length pool.volunteers) counts) ≡ counts)

pub leaders_rise : (pool : Pool) (alike : ℕ → ℕ → Bool) → MakesClasses pool alike → is_increasing (leaders alike (length pool.volunteers)) ≡ true
unfolding leads
leaders_rise pool alike makes = filter_increases (leads alike makes.same (length pool.volunteers)) 0 (length pool.volunteers)

-- the first panel of each composition is a quota panel with that composition
pub each_first_panel : (pool : Pool) (alike : ℕ → ℕ → Bool) → MakesClasses pool alike → AllByRecursion (FitsAndComposes pool alike) (compositions pool alike)
unfolding leads
each_first_panel pool alike makes =
    let n = length pool.volunteers in
    let low : ℕ → ℕ = λ l. least_taken (volunteer pool.volunteers l).standing (length (class_of alike n l)) in
    let high : ℕ → ℕ = λ l. most_taken (volunteer pool.volunteers l).standing (length (class_of alike n l)) in
    each_map (λ counts. ByLeader low high (leaders alike n) counts × (is_composition pool (leaders alike n) counts ≡ true)) (FitsAndComposes pool alike)
    (λ counts (given, composes).
    let at_leader = each_from_filter (λ l. (low l ≤ given.of l) × (given.of l ≤ high l)) (leads alike makes.same n) (range_with_len 0 n) given.within in
    let most : (l : ℕ) → l < n → leads alike makes.same n l ≡ true → given.of l ≤ rank (alike l) n =
    λ l below lead.
    let bounds = range_each (λ l. leads alike makes.same n l ≡ true → (low l ≤ given.of l) × (given.of l ≤ high l)) 0 n l at_leader (omega arith) (omega arith) lead in
    at_most_size (volunteer pool.volunteers l).standing (rank (alike l) n) (given.of l)
    (subst (λ size. given.of l ≤ most_taken (volunteer pool.volunteers l).standing size) (length-filter-total (alike l) (range_with_len 0 n)) bounds.1) in
    let composed = composition_is alike makes.same n given.of most in
    let rises = filter_increases (in_panel alike makes.same n given.of) 0 n in
    let below = filter_below (in_panel alike makes.same n given.of) n 0 n (omega arith) in
    let fits = panel_fits pool alike makes given.of (first_panel alike n (map given.of (leaders alike n))) rises below composed given.within (subst (λ z. is_composition pool (leaders alike n) z ≡ true) given.is composes) in
    subst (FitsAndComposes pool alike) (sym given.is) (fits, composed))
    (compositions pool alike) (each_by_leader pool alike (leaders_rise pool alike makes))
  where
    at_most_size : (s : Standing) (size given : ℕ) → given ≤ most_taken s size → given ≤ size
    at_most_size Open size given l = l
    at_most_size Seated size given l = l
    at_most_size Gone size given l = omega arith
