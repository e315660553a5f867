-- The panels of a composition's arcs: each takes as many members of each class as the composition says, no two are the same, and each
-- member of a class is on panels for the same length of the dial.
use Rattle.std.proofs.Common.{◌≡◌, ◌⊎◌, inl, inr, ℕ, zero, suc, ◌+◌, ◌-◌, ◌*◌, ◌/◌, ◌≤◌, ◌<◌, Bool, true, false, cond, eqb, ltb, List, [], ◌∷◌, map, take, drop, ◌++◌, length, get_or, slice_get, Some, count_by, refl, sym, ap, ◌∙◌, ⊎_elim, arith, subst, mul-le-mul_right}
use Rattle.std.specs.List.{range_with_len, AllByRecursion}
use Rattle.std.proofs.lemmas.Bool.{and_from, cases_Bool, cases_lt, lt-ltb, ne_eqb, false≢true}
use Rattle.std.proofs.lemmas.List.{take_all}
use Rattle.std.proofs.Math.Nat.{div-le_of_le-mul, div-lt_iff_lt-mul, mul-div_cancel}
use Rattle.std.proofs.Math.Bool.{or-false}
use Rattle.define_pools.proofs.Sums.{total, total_eq, total_ext, total-filter, total-scaled, one_if, count_by-total}
use Rattle.define_pools.proofs.Each.{each_map, each_append, each_mapped, each_filter, each_range, each_slice_get}
use Rattle.define_pools.specs.Lists.{includes, is_increasing}
use Rattle.define_searches.specs.Classes.{Class, Classes, PartVolunteers, volunteer_count}
use Rattle.define_searches.specs.Compositions.{all_counts, compositions, composition_of, is_composition}
use Rattle.define_searches.proofs.FirstPanel.{holds_filter}
use Rattle.define_searches.proofs.Listed.{each_count}
use Rattle.define_runs.specs.Spreading.{is_partly_taken, partly_taken, dial, cuts, arcs, arcs_between, is_given, panel_at, turned}
use Rattle.define_runs.proofs.Arcs.{arcs_sum, each_arc, steps_turn, whole_turns}
use Rattle.define_runs.proofs.CommonTotals.{dial-positive}
use Rattle.define_runs.proofs.Cuts.{cuts_begin, cuts_increase}
use Rattle.define_runs.proofs.Dials.{Cut, Divided, IsMark, cuts_are, divided_dial, each_included, includes-partly, marks_cut, turn_is}
use Rattle.define_runs.proofs.Windows.{all_times, all_windows, at_most_once, includes-none, length-turned, one_if-includes, sum_below, times, times-none, times-some, times-turned, times-turned-le, windows_apart}

-- ---- counts within the classes

-- `counts` has a number for each class, at most the number of its members
abbrev pub Within : List Class → List ℕ → Type 0
Within [] [] = Unit {0}
Within [] (c ∷ counts) = ⊥
Within (class ∷ classes) [] = ⊥
Within (class ∷ classes) (c ∷ counts) = (c ≤ length class.members) × Within classes counts

-- for each class, the least number to take is at most the most, and the most is at most the number of its members
abbrev pub CanGive : List Class → Type 0
CanGive classes = AllByRecursion (λ class. (class.least ≤ class.most) × (class.most ≤ length class.members)) classes

each_within : (classes : List Class) → CanGive classes → AllByRecursion (Within classes) (all_counts classes)
each_within [] can = (tt, tt)
each_within (class ∷ classes) can =
    let rest = each_within classes can.1 in
    let order = can.0.0 in
    let few = can.0.1 in
    each_count (Within (class ∷ classes)) (λ c. map (λ counts. c ∷ counts) (all_counts classes)) class.least (class.most - class.least)
    (λ c low high. each_mapped (Within (class ∷ classes)) (λ counts. c ∷ counts) (all_counts classes)
    (each_map (Within classes) (λ counts. Within (class ∷ classes) (c ∷ counts)) (λ counts within. (omega arith, within)) (all_counts classes) rest))

pub compositions_within : (all : Classes) → CanGive all.classes → AllByRecursion (Within all.classes) (compositions all)
compositions_within all can =
    each_filter (Within all.classes) (is_composition all) (all_counts all.classes)
    (each_map (Within all.classes) (λ counts. is_composition all counts ≡ true → Within all.classes counts) (λ counts within e. within) (all_counts all.classes) (each_within all.classes can))

within_at : (classes : List Class) (counts : List ℕ) (t : ℕ) (class : Class) → Within classes counts → slice_get classes t ≡ Some class → (t < length counts) × (get_or counts t 0 ≤ length class.members)
within_at [] counts t class within e = cc
within_at (x ∷ classes) [] t class within e = absurd within
within_at (x ∷ classes) (c ∷ counts) zero class within e = let same : x ≡ class = cc in (omega arith, subst (λ (k : Class). c ≤ length k.members) same within.0)
within_at (x ∷ classes) (c ∷ counts) (suc t) class within e = let rest = within_at classes counts t class within.1 e in (omega (arith, rest.0), rest.1)

same_length : (classes : List Class) (counts : List ℕ) → Within classes counts → length counts ≡ length classes
same_length [] [] within = refl
same_length [] (c ∷ counts) within = absurd within
same_length (class ∷ classes) [] within = absurd within
same_length (class ∷ classes) (c ∷ counts) within = omega (arith, same_length classes counts within.1)

-- if f of each class is the count in the class's place, the list of these values is the list of counts
told_by : (f : Class → ℕ) (classes : List Class) (counts : List ℕ) → length counts ≡ length classes →
    ((t : ℕ) (class : Class) → slice_get classes t ≡ Some class → f class ≡ get_or counts t 0) → map f classes ≡ counts
told_by f [] [] e h = refl
told_by f [] (c ∷ counts) e h = absurd (omega arith)
told_by f (class ∷ classes) [] e h = absurd (omega arith)
told_by f (class ∷ classes) (c ∷ counts) e h =
    let here : f class ≡ c = h 0 class refl in
    let rest = told_by f classes counts (omega arith) (λ t k at. h (suc t) k at) in rw (here, rest) refl

-- ---- who is given at a place of the dial

window_holds : (j c : ℕ) (members : List ℕ) (i : ℕ) → includes members i ≡ false → includes (turned j c members) i ≡ false
window_holds j c members i h = includes-none (turned j c members) i (omega (arith, times-turned-le j c members i, times-none members i h))

given_none : (len at : ℕ) (classes : List Class) (counts : List ℕ) (i : ℕ) → total (λ (class : Class). one_if (includes class.members i)) classes ≡ 0 → is_given len at classes counts i ≡ false
given_none len at [] counts i none = refl
given_none len at (class ∷ classes) [] i none = refl
given_none len at (class ∷ classes) (c ∷ counts) i none =
    let here = window_holds (at * length class.members / len) c class.members i (apart (includes class.members i) none) in
    let rest = given_none len at classes counts i (later (includes class.members i) none) in rw (here, rest) refl
  where
    apart : (b : Bool) → one_if b + total (λ (class : Class). one_if (includes class.members i)) classes ≡ 0 → b ≡ false
    apart true none = absurd (omega arith)
    apart false none = refl

    later : (b : Bool) → one_if b + total (λ (class : Class). one_if (includes class.members i)) classes ≡ 0 → total (λ (class : Class). one_if (includes class.members i)) classes ≡ 0
    later b none = omega arith

-- if no class but class t has its member i, then i is given at place `at` exactly if i is in the window of class t there
given_at : (len at : ℕ) (classes : List Class) (counts : List ℕ) (t : ℕ) (class : Class) (i : ℕ) → slice_get classes t ≡ Some class → t < length counts →
    includes class.members i ≡ true → total (λ (class : Class). one_if (includes class.members i)) classes ≤ 1 →
    is_given len at classes counts i ≡ includes (turned (at * length class.members / len) (get_or counts t 0) class.members) i
given_at len at [] counts t class i e l h once = cc
given_at len at (x ∷ classes) [] t class i e l h once = absurd (omega arith)
given_at len at (x ∷ classes) (c ∷ counts) zero class i e l h once =
    let same : x ≡ class = cc in
    let first : includes x.members i ≡ true = ap (λ (k : Class). includes k.members i) same ∙ h in
    let none : total (λ (class : Class). one_if (includes class.members i)) classes ≡ 0 = let o = (rw first at once) in omega arith in
    let rest = given_none len at classes counts i none in
    rw rest (or-false (includes (turned (at * length x.members / len) c x.members) i) ∙ ap (λ (k : Class). includes (turned (at * length k.members / len) c k.members) i) same)
given_at len at (x ∷ classes) (c ∷ counts) (suc t) class i e l h once =
    let among = counted classes t e in
    let not_first : includes x.members i ≡ false = other (includes x.members i) once among in
    let here = window_holds (at * length x.members / len) c x.members i not_first in
    let rest = given_at len at classes counts t class i e (omega arith) h (omega arith) in
    rw here rest
  where
    counted : (classes : List Class) (t : ℕ) → slice_get classes t ≡ Some class → 1 ≤ total (λ (class : Class). one_if (includes class.members i)) classes
    counted [] t e = absurd cc
    counted (y ∷ classes) zero e =
        let same : y ≡ class = cc in
        let first : includes y.members i ≡ true = ap (λ (k : Class). includes k.members i) same ∙ h in
        rw first (omega arith)
    counted (y ∷ classes) (suc t) e = omega (arith, counted classes t e)

    other : (b : Bool) → one_if b + total (λ (class : Class). one_if (includes class.members i)) classes ≤ 1 → 1 ≤ total (λ (class : Class). one_if (includes class.members i)) classes → b ≡ false
    other true once among = absurd (omega arith)
    other false once among = refl

-- ---- a composition's panels

module _ (all : Classes) (parting : PartVolunteers all) (counts : List ℕ) (within : Within all.classes counts) where
  abbrev len : ℕ
  len = dial all counts

  abbrev many : ℕ
  many = volunteer_count all

  -- the members whom class t gives on the arc that begins at place `at` of the dial
  abbrev window : ℕ → Class → ℕ → List ℕ
  window t class at = turned (at * length class.members / len) (get_or counts t 0) class.members

  module _ (t : ℕ) (class : Class) (is_at : slice_get all.classes t ≡ Some class) where
    up : is_increasing class.members ≡ true
    up = each_slice_get (λ class. is_increasing class.members ≡ true) all.classes t class parting.rising is_at

    known : AllByRecursion (λ i. i < many) class.members
    known = each_slice_get (λ class. AllByRecursion (λ i. i < many) class.members) all.classes t class parting.known is_at

    once : (i : ℕ) → times class.members i ≤ 1
    once i = at_most_once class.members up i

    counted : t < length counts
    counted = (within_at all.classes counts t class within is_at).0

    fits : get_or counts t 0 ≤ length class.members
    fits = (within_at all.classes counts t class within is_at).1

    start_fits : (at : ℕ) → at < len → at * length class.members / len ≤ length class.members
    start_fits at below = div-le_of_le-mul len (omega (arith, mul-le-mul_right {m = at} {n = len} (length class.members) (omega arith)))

    given_held : (at i : ℕ) → includes class.members i ≡ true → is_given len at all.classes counts i ≡ includes (window t class at) i
    given_held at i h =
        let below : i < many = each_included (λ i. i < many) class.members i known h in
        let one = parting.once i below in
        let one' : total (λ (class : Class). one_if (includes class.members i)) all.classes ≡ 1 = sym (count_by-total (λ (class : Class). includes class.members i) all.classes) ∙ one in
        given_at len at all.classes counts t class i is_at counted h (omega arith)

    held : (at i : ℕ) → includes class.members i ≡ true → includes (panel_at all counts at) i ≡ includes (window t class at) i
    held at i h =
        let below : i < many = each_included (λ i. i < many) class.members i known h in
        holds_filter (is_given len at all.classes counts) i 0 many (omega arith) (omega arith) ∙ given_held at i h

    window_once : (at i : ℕ) → times (window t class at) i ≤ 1
    window_once at i = omega (arith, times-turned-le (at * length class.members / len) (get_or counts t 0) class.members i, once i)

    held_times : (at i : ℕ) → includes class.members i ≡ true → one_if (includes (panel_at all counts at) i) ≡ times (window t class at) i
    held_times at i h = ap one_if (held at i h) ∙ one_if-includes (window t class at) i (window_once at i)

    -- the panel of each place takes as many members of class `t` as the composition
    takes : (at : ℕ) → at < len → count_by (includes class.members) (panel_at all counts at) ≡ get_or counts t 0
    takes at below =
        let a = count_by-total (includes class.members) (panel_at all counts at) in
        let b = total-filter (λ i. one_if (includes class.members i)) (is_given len at all.classes counts) (range_with_len 0 many) in
        let c = total_eq (λ i. cond (is_given len at all.classes counts i) (one_if (includes class.members i)) 0) (λ i. times (window t class at) i) (range_with_len 0 many)
        (each_range (λ i. cond (is_given len at all.classes counts i) (one_if (includes class.members i)) 0 ≡ times (window t class at) i) 0 many (λ i low high. term i)) in
        let d = all_times many (window t class at) (each_window (λ i. i < many) (at * length class.members / len) (get_or counts t 0) class.members known) in
        let e = length-turned (at * length class.members / len) (get_or counts t 0) class.members (start_fits at below) fits in
        omega (arith, a, b, c, d, e)
      where
        term : (i : ℕ) → cond (is_given len at all.classes counts i) (one_if (includes class.members i)) 0 ≡ times (window t class at) i
        term i = ⊎_elim
            (λ (h : includes class.members i ≡ true).
            let same = given_held at i h in rw (h, same) (one_if-includes (window t class at) i (window_once at i)))
            (λ (h : includes class.members i ≡ false).
            let none = times-none class.members i h in
            let low = times-turned-le (at * length class.members / len) (get_or counts t 0) class.members i in
            rw h (nothing (is_given len at all.classes counts i) ∙ omega arith))
            (cases_Bool (includes class.members i))
          where
            nothing : (b : Bool) → cond {A = ℕ} b 0 0 ≡ 0
            nothing true = refl
            nothing false = refl

        each_take : (P : ℕ → Type 0) (k : ℕ) (xs : List ℕ) → AllByRecursion P xs → AllByRecursion P (take k xs)
        each_take P zero xs h = tt
        each_take P (suc k) [] h = tt
        each_take P (suc k) (x ∷ xs) h = (h.0, each_take P k xs h.1)

        each_drop : (P : ℕ → Type 0) (k : ℕ) (xs : List ℕ) → AllByRecursion P xs → AllByRecursion P (drop k xs)
        each_drop P zero xs h = h
        each_drop P (suc k) [] h = tt
        each_drop P (suc k) (x ∷ xs) h = each_drop P k xs h.1

        each_window : (P : ℕ → Type 0) (j c : ℕ) (xs : List ℕ) → AllByRecursion P xs → AllByRecursion P (turned j c xs)
        each_window P j c xs h = each_take P c (drop j xs ++ take j xs) (each_append P (drop j xs) (take j xs) (each_drop P j xs h) (each_take P j xs h))

  -- the panel at each place of the dial has the composition `counts`
  pub panel_composes : (at : ℕ) → at < len → composition_of all (panel_at all counts at) ≡ counts
  panel_composes at below = told_by (λ class. count_by (includes class.members) (panel_at all counts at)) all.classes counts (same_length all.classes counts within) (λ t class is_at. takes t class is_at at below)

  -- ---- different panels

  -- the panel at a place and the panel at a later cut are different
  pub panels_apart : (x y : ℕ) → x < y → Cut all counts y → panel_at all counts x ≡ panel_at all counts y → ⊥
  panels_apart x y less cut same = by cut.1
    where
      at_mark : IsMark all counts y → ⊥
      at_mark mark =
          let t = mark.partly.place in
          let class = mark.partly.class in
          let is_at = mark.partly.at in
          let size = mark.partly.size_is in
          let d = mark.divided in
          let some_step = d.some in
          let first : x * length class.members / len ≡ x / d.step = ap (λ n. x * n / len) (sym size) ∙ turn_is mark.size len x d in
          let second : y * length class.members / len ≡ mark.number =
          ap (λ n. y * n / len) (sym size) ∙ turn_is mark.size len y d ∙ ap (λ n. n / d.step) mark.is ∙ mul-div_cancel mark.number some_step in
          let before : x / d.step < mark.number = (div-lt_iff_lt-mul some_step).1 (omega (arith, mark.is)) in
          let below = mark.below in
          windows_apart class.members (x * length class.members / len) (y * length class.members / len) (get_or counts t 0) (once t class is_at) (omega arith) (omega arith) mark.partly.some mark.partly.few
          (λ i. ⊎_elim
          (λ (h : includes class.members i ≡ true). sym (held_times t class is_at x i h) ∙ ap (λ panel. one_if (includes panel i)) same ∙ held_times t class is_at y i h)
          (λ (h : includes class.members i ≡ false).
          let none = times-none class.members i h in
          omega (arith, times-turned-le (x * length class.members / len) (get_or counts t 0) class.members i, times-turned-le (y * length class.members / len) (get_or counts t 0) class.members i))
          (cases_Bool (includes class.members i)))

      by : (y ≡ 0) ⊎ IsMark all counts y → ⊥
      by (inl e) = omega arith
      by (inr mark) = at_mark mark

  -- ---- even chances

  -- let `q * size` be the dial's length, and each multiple of q below it a cut. Add up, over all arcs, the arc's length times
  -- `f (at / q)`, where `at` is the arc's first place: this is q times the sum of f below `size`
  over_arcs : (f : ℕ → ℕ) (q size : ℕ) → 0 < q → q * size ≡ len → ((j : ℕ) → j < size → includes (cuts all counts) (j * q) ≡ true) →
      total (λ a. a.1 * f (a.0 / q)) (arcs all counts) ≡ q * sum_below f size
  over_arcs f q size some whole marked = by (cuts_begin all counts)
    where
      by : ((rest : List ℕ) × (cuts all counts ≡ 0 ∷ rest)) → total (λ a. a.1 * f (a.0 / q)) (arcs all counts) ≡ q * sum_below f size
      by (rest, e) =
          let up = subst (λ xs. is_increasing xs ≡ true) e (cuts_increase all counts) in
          let below = subst (AllByRecursion (λ y. y < len)) e (each_map (Cut all counts) (λ y. y < len) (λ y cut. cut.0) (cuts all counts) (cuts_are all counts)) in
          let steps = steps_turn f q size len some whole 0 rest up below (λ j l m. let h = subst (λ xs. includes xs (j * q) ≡ true) e (marked j l) in let other : eqb 0 (j * q) ≡ false = ne_eqb 0 (j * q) (λ e. omega arith) in rw other at h) in
          let sum = arcs_sum (λ z. f (z / q)) len 0 rest steps in
          let turns = whole_turns f q size len some whole size in
          let turned : size * q ≡ len = omega arith in
          let same : sum_below (λ z. f (z / q)) (size * q) ≡ sum_below (λ z. f (z / q)) len = ap (sum_below (λ z. f (z / q))) turned in
          ap (λ xs. total (λ a. a.1 * f (a.0 / q)) (arcs_between len xs)) e ∙ omega (arith, sum, turns, same)

  -- the lengths of the arcs sum to the length of the dial
  pub arcs_length : total (λ a. a.1) (arcs all counts) ≡ len
  arcs_length =
      let some = dial-positive all counts in
      let e = over_arcs (λ z. 1) len 1 some (omega arith) (λ j l. let s : j * len ≡ 0 = zero_of j l in rw s (zero_cut)) in
      let scaled = total_ext (λ (a : ℕ × ℕ). a.1 * 1) (λ (a : ℕ × ℕ). a.1) (λ a. omega arith) (arcs all counts) in
      omega (arith, e, scaled)
    where
      zero_of : (j : ℕ) → j < 1 → j * len ≡ 0
      zero_of zero l = omega arith
      zero_of (suc j) l = absurd (omega arith)

      zero_cut : includes (cuts all counts) 0 ≡ true
      zero_cut = let begins = cuts_begin all counts in ap (λ xs. includes xs 0) begins.1

  -- take the sum of the lengths of the arcs whose panels have member i of class t: this sum times the class's size is the class's count
  -- times the dial's length
  pub chance : (t : ℕ) (class : Class) → slice_get all.classes t ≡ Some class → (i : ℕ) → includes class.members i ≡ true →
      total (λ a. a.1 * one_if (includes (panel_at all counts a.0) i)) (arcs all counts) * length class.members ≡ get_or counts t 0 * len
  chance t class is_at i h = ⊎_elim partly whole (cases_Bool (is_partly_taken class (get_or counts t 0)))
    where
      c : ℕ
      c = get_or counts t 0

      size : ℕ
      size = length class.members

      one : times class.members i ≡ 1
      one = omega (arith, once t class is_at i, times-some class.members i h)

      partly : is_partly_taken class (get_or counts t 0) ≡ true → total (λ a. a.1 * one_if (includes (panel_at all counts a.0) i)) (arcs all counts) * length class.members ≡ get_or counts t 0 * len
      partly taken =
          let there = includes-partly all.classes counts t class is_at (counted t class is_at) taken in
          let d : Divided (length class.members) len = each_included (λ size. Divided size len) (partly_taken all.classes counts) (length class.members) (divided_dial all counts) there in
          let f : ℕ → ℕ = λ j. times (turned j (get_or counts t 0) class.members) i in
          let terms = total_ext (λ (a : ℕ × ℕ). a.1 * one_if (includes (panel_at all counts a.0) i)) (λ (a : ℕ × ℕ). a.1 * f (a.0 / d.step))
          (λ a. ap (λ n. a.1 * n) (held_times t class is_at a.0 i h ∙ ap f (turn_is (length class.members) len a.0 d))) (arcs all counts) in
          let sum = over_arcs f d.step (length class.members) d.some d.is (λ j l. marks_cut all counts (length class.members) j there d l) in
          let windows = all_windows class.members i (get_or counts t 0) (fits t class is_at) in
          let times_one : get_or counts t 0 * times class.members i ≡ get_or counts t 0 = ap (λ n. get_or counts t 0 * n) one ∙ omega arith in
          let whole : total (λ a. a.1 * one_if (includes (panel_at all counts a.0) i)) (arcs all counts) ≡ d.step * get_or counts t 0 = terms ∙ sum ∙ ap (λ n. d.step * n) (windows ∙ times_one) in
          ap (λ n. n * length class.members) whole ∙ (let s : d.step * get_or counts t 0 * length class.members ≡ get_or counts t 0 * (d.step * length class.members) = omega arith in s) ∙ ap (λ n. get_or counts t 0 * n) d.is

      whole_or_none : is_partly_taken class (get_or counts t 0) ≡ false → (get_or counts t 0 ≡ 0) ⊎ (get_or counts t 0 ≡ length class.members)
      whole_or_none taken = ⊎_elim
          (λ (l : 0 < get_or counts t 0). ⊎_elim
          (λ (m : get_or counts t 0 < length class.members). absurd (let a = lt-ltb 0 (get_or counts t 0) l in let b = lt-ltb (get_or counts t 0) (length class.members) m in false≢true (sym taken ∙ and_from (ltb 0 (get_or counts t 0)) (ltb (get_or counts t 0) (length class.members)) a b)))
          (λ (m : length class.members ≤ get_or counts t 0). let f = fits t class is_at in inr (omega arith)) (cases_lt (get_or counts t 0) (length class.members)))
          (λ (l : get_or counts t 0 ≤ 0). inl (omega arith)) (cases_lt 0 (get_or counts t 0))

      -- if `count` is 0 or the class's size, how often a window contains member i, times the class's size, is `count`
      each_window_same : (count j : ℕ) → j ≤ length class.members → (count ≡ 0) ⊎ (count ≡ length class.members) → times (turned j count class.members) i * length class.members ≡ count
      each_window_same count j low (inl e) =
          let w = times-turned j 0 class.members i low (omega arith) in
          let a : j + 0 ≡ j = omega arith in let b : j - length class.members ≡ 0 = omega arith in
          let w' = (rw (a, b) at w) in
          let none : times (turned j 0 class.members) i ≡ 0 = omega arith in
          rw (e, none) (omega arith)
      each_window_same count j low (inr e) =
          let w = times-turned j (length class.members) class.members i low (omega arith) in
          let a : take (j + length class.members) class.members ≡ class.members = take_all (j + length class.members) class.members (omega arith) in
          let b : j + length class.members - length class.members ≡ j = omega arith in
          let w' = (rw (a, b) at w) in
          let all : times (turned j (length class.members) class.members) i ≡ 1 = omega (arith, w', one) in
          rw (e, all) (omega arith)

      whole : is_partly_taken class (get_or counts t 0) ≡ false → total (λ a. a.1 * one_if (includes (panel_at all counts a.0) i)) (arcs all counts) * length class.members ≡ get_or counts t 0 * len
      whole taken =
          let choice = whole_or_none taken in
          let below = each_arc (λ y. y < len) len (cuts all counts) (each_map (Cut all counts) (λ y. y < len) (λ y cut. cut.0) (cuts all counts) (cuts_are all counts)) in
          sym (total-scaled (λ (a : ℕ × ℕ). a.1 * one_if (includes (panel_at all counts a.0) i)) (length class.members) (arcs all counts))
          ∙ total_eq (λ (a : ℕ × ℕ). a.1 * one_if (includes (panel_at all counts a.0) i) * length class.members) (λ (a : ℕ × ℕ). a.1 * get_or counts t 0) (arcs all counts)
          (each_map (λ (a : ℕ × ℕ). a.0 < len) (λ (a : ℕ × ℕ). a.1 * one_if (includes (panel_at all counts a.0) i) * length class.members ≡ a.1 * get_or counts t 0)
          (λ a l.
          let same = each_window_same (get_or counts t 0) (a.0 * length class.members / len) (start_fits t class is_at a.0 l) choice in
          let here = held_times t class is_at a.0 i h in
          ap (λ n. a.1 * n * length class.members) here
          ∙ (let s : a.1 * times (window t class a.0) i * length class.members ≡ a.1 * (times (window t class a.0) i * length class.members) = omega arith in s)
          ∙ ap (λ n. a.1 * n) same) (arcs all counts) below)
          ∙ total-scaled (λ (a : ℕ × ℕ). a.1) (get_or counts t 0) (arcs all counts)
          ∙ ap (λ n. n * get_or counts t 0) arcs_length
          ∙ omega arith
