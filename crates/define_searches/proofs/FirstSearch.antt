-- The search through live fronts finds the first composition.
use Rattle.std.proofs.Common.{◌≡◌, ℕ, ◌+◌, ◌-◌, ◌≤◌, Bool, true, false, cond, ◌&&◌, eqb, leb, List, [], ◌∷◌, ◌++◌, map, length, filter, Option, Some, None, refl, sym, ap, ◌∙◌, arith, length-append, append_assoc}
use Rattle.std.specs.Prelude.{slice_get}
use Rattle.std.specs.List.{list_all, flat_map, enumerate_from, AllByRecursion}
use Rattle.std.proofs.lemmas.Bool.{and_parts, and_from, eqb-true, eq-eqb, leb-true, le-leb, false≢true, false_from_ne_true}
use Rattle.std.proofs.lemmas.List.{map-append, map-id, append-nil}
use Rattle.std.proofs.lemmas.List.Elements.{filter-append}
use Rattle.std.proofs.Math.Seq.{drop-append_seam}
use Rattle.define_pools.proofs.Each.{each_map, each_mapped, each_everywhere, none_pass, list_all_implies}
use Rattle.define_pools.proofs.Sums.{sum_by-is-total, total}
use Rattle.define_searches.specs.Classes.{Class, Classes, IsSearchable}
use Rattle.define_searches.specs.Compositions.{counts_of, all_counts, taken_of, has_value, is_of_household, lies_within, meets_bounds, takes_one_of, takes_one_a_household, is_composition, compositions, first_composition}
use Rattle.define_searches.specs.Fronts.{later_than, most_given, taken_by, size_reachable, value_reachable, values_reachable, is_reachable}
use Rattle.define_searches.specs.Visits.{Search, one_by_one, enter_first, first_search}
use Rattle.define_searches.proofs.Listed.{each_count}

-- ---- counts that classes can give

-- a list has a count for each class, each at most the most that the class can give
abbrev pub Gives : List Class → List ℕ → Type 0
Gives [] [] = Unit {0}
Gives [] (c ∷ counts) = ⊥
Gives (class ∷ classes) [] = ⊥
Gives (class ∷ classes) (c ∷ counts) = (c ≤ class.most) × Gives classes counts

abbrev pub InOrder : List Class → Type 0
InOrder classes = AllByRecursion (λ class. class.least ≤ class.most) classes

pub all_counts_give : (classes : List Class) → InOrder classes → AllByRecursion (Gives classes) (all_counts classes)
all_counts_give [] h = (tt, tt)
all_counts_give (class ∷ classes) h =
    let rest = all_counts_give classes h.1 in
    each_count (Gives (class ∷ classes)) (λ c. map (λ counts. c ∷ counts) (all_counts classes)) class.least (class.most - class.least)
    (λ c lo hi. let o = h.0 in each_mapped (Gives (class ∷ classes)) (λ counts. c ∷ counts) (all_counts classes)
    (each_map (Gives classes) (λ counts. (c ≤ class.most) × Gives classes counts) (λ counts g. (omega arith, g)) (all_counts classes) rest))

pub taken_none : (p : Class → Bool) (classes : List Class) → taken_of p classes [] ≡ 0
taken_none p [] = refl
taken_none p (class ∷ classes) = refl

-- the members that `front ++ counts` takes are those that `front` takes plus those that `counts` takes
pub taken-append : (p : Class → Bool) (pre later : List Class) (front counts : List ℕ) → length front ≡ length pre →
    taken_of p (pre ++ later) (front ++ counts) ≡ taken_of p (pre ++ later) front + taken_of p later counts
taken-append p [] later [] counts e = omega (arith, taken_none p later)
taken-append p [] later (c ∷ front) counts e = absurd (omega arith)
taken-append p (class ∷ pre) later [] counts e = absurd (omega arith)
taken-append p (class ∷ pre) later (c ∷ front) counts e = omega (arith, taken-append p pre later front counts (omega arith))

gives_most : (p : Class → Bool) (later : List Class) (counts : List ℕ) → Gives later counts → taken_of p later counts ≤ total (λ class. cond (p class) class.most 0) later
gives_most p [] [] h = omega arith
gives_most p [] (c ∷ counts) h = absurd h
gives_most p (class ∷ later) [] h = absurd h
gives_most p (class ∷ later) (c ∷ counts) h =
    let rest = gives_most p later counts h.1 in let here = h.0 in
    elim (p class) as (λ b. cond b c 0 + taken_of p later counts ≤ cond b class.most 0 + total (λ class. cond (p class) class.most 0) later) [
      | true ↦ omega arith
      | false ↦ omega arith
    ]

pub taken_within_most : (p : Class → Bool) (later : List Class) (counts : List ℕ) → Gives later counts → taken_of p later counts ≤ most_given p later
taken_within_most p later counts h = omega (arith, gives_most p later counts h, sum_by-is-total (λ class. cond (p class) class.most 0) later)

-- ---- fronts of compositions are live

-- the classes are `pre` followed by `later`, and `front` has a count for each class of `pre`
pub record Split (all : Classes) (pre later : List Class) (front : List ℕ) : Type 0 where
  pub whole : all.classes ≡ pre ++ later
  pub fits : length front ≡ length pre

pub later_is : (all : Classes) (pre later : List Class) (front : List ℕ) → Split all pre later front → later_than front all.classes ≡ later
later_is all pre later front split =
    let whole = split.whole in let fits = split.fits in rw (whole, fits) (drop-append_seam pre later)

pub taken_split : (all : Classes) (pre later : List Class) (front counts : List ℕ) → Split all pre later front → (p : Class → Bool) →
    taken_of p all.classes (front ++ counts) ≡ taken_of p all.classes front + taken_of p later counts
taken_split all pre later front counts split p = let whole = split.whole in rw whole (taken-append p pre later front counts split.fits)

reached : (size taken more most : ℕ) → more ≤ most → taken + more ≡ size → (leb taken size && leb size (taken + most)) ≡ true
reached size taken more most l s =
    and_from (leb taken size) (leb size (taken + most)) (le-leb taken size (omega arith)) (le-leb size (taken + most) (omega arith))

within_reach : (lower upper taken more most : ℕ) → more ≤ most → (leb lower (taken + more) && leb (taken + more) upper) ≡ true → (leb taken upper && leb lower (taken + most)) ≡ true
within_reach lower upper taken more most l e =
    let parts = and_parts (leb lower (taken + more)) (leb (taken + more) upper) e in
    let a = leb-true lower (taken + more) parts.0 in let b = leb-true (taken + more) upper parts.1 in
    and_from (leb taken upper) (leb lower (taken + most)) (le-leb taken upper (omega arith)) (le-leb lower (taken + most) (omega arith))

-- the counts are a composition
pub record Composes (all : Classes) (counts : List ℕ) : Type 0 where
  pub size : taken_of (λ class. true) all.classes counts ≡ all.size
  pub bounds : meets_bounds all.bounds all.classes counts ≡ true
  pub households : takes_one_a_household all.classes counts ≡ true

pub composition_parts : (all : Classes) (counts : List ℕ) → is_composition all counts ≡ true → Composes all counts
composition_parts all counts composes =
    let size = eqb (taken_of (λ class. true) all.classes counts) all.size in let bounds = meets_bounds all.bounds all.classes counts in
    let both = and_parts (size && bounds) (takes_one_a_household all.classes counts) composes in
    let parts = and_parts size bounds both.0 in
    record { size = eqb-true (taken_of (λ class. true) all.classes counts) all.size parts.0; bounds = parts.1; households = both.1 }

-- if `front ++ counts` takes at most one member of a household, so does `front`
one_of_front : (all : Classes) (pre later : List Class) (front counts : List ℕ) → Split all pre later front → (household : Option ℕ) →
    takes_one_of all.classes (front ++ counts) household ≡ true → takes_one_of all.classes front household ≡ true
one_of_front all pre later front counts split None one = refl
one_of_front all pre later front counts split (Some h) one =
    let of : Class → Bool = λ class. is_of_household h class.household in
    let whole = leb-true (taken_of of all.classes (front ++ counts)) 1 one in
    let parts = taken_split all pre later front counts split of in
    le-leb (taken_of of all.classes front) 1 (omega arith)

-- if a composition begins with a front, the front is live
pub live_from_composition : (all : Classes) (pre later : List Class) (front counts : List ℕ) → Split all pre later front → Gives later counts →
    is_composition all (front ++ counts) ≡ true → is_reachable all front ≡ true
live_from_composition all pre later front counts split gives composes =
    let parts = composition_parts all (front ++ counts) composes in
    let after = later_is all pre later front split in
    let taken = taken_split all pre later front counts split in
    let size : size_reachable all front ≡ true = rw after (reached all.size (taken_by all front) (taken_of (λ class. true) later counts) (most_given (λ class. true) later) (taken_within_most (λ class. true) later counts gives) (rw (taken (λ class. true)) at parts.size)) in
    let values : values_reachable all front ≡ true = list_all_implies
    (λ (c, values). list_all (λ (v, bound). lies_within bound (taken_of (has_value c v) all.classes (front ++ counts))) (enumerate_from 0 values))
    (λ (c, values). list_all (value_reachable all front c) (enumerate_from 0 values))
    (λ (c, values). list_all_implies (λ (v, bound). lies_within bound (taken_of (has_value c v) all.classes (front ++ counts))) (value_reachable all front c)
    (λ (v, bound) within. rw after (within_reach bound.lower bound.upper (taken_of (has_value c v) all.classes front) (taken_of (has_value c v) later counts) (most_given (has_value c v) later)
    (taken_within_most (has_value c v) later counts gives) (rw (taken (has_value c v)) at within)))
    (enumerate_from 0 values))
    (enumerate_from 0 all.bounds) parts.bounds in
    let households = list_all_implies (λ class. takes_one_of all.classes (front ++ counts) class.household) (λ class. takes_one_of all.classes front class.household)
    (λ class one. one_of_front all pre later front counts split class.household one) all.classes parts.households in
    and_from (size_reachable all front && values_reachable all front) (takes_one_a_household all.classes front)
    (and_from (size_reachable all front) (values_reachable all front) size values) households

-- a live front of all classes is a composition
pub composition_from_live : (all : Classes) (pre : List Class) (front : List ℕ) → Split all pre [] front → is_reachable all front ≡ true → is_composition all front ≡ true
composition_from_live all pre front split live =
    let both = and_parts (size_reachable all front && values_reachable all front) (takes_one_a_household all.classes front) live in
    let parts = and_parts (size_reachable all front) (values_reachable all front) both.0 in
    let after = later_is all pre [] front split in
    let sizes = and_parts (leb (taken_by all front) all.size) (leb all.size (taken_by all front + most_given (λ class. true) (later_than front all.classes))) parts.0 in
    let low = leb-true (taken_by all front) all.size sizes.0 in
    let high : all.size ≤ taken_by all front + 0 = leb-true all.size (taken_by all front + 0) (rw after at sizes.1) in
    let bounds : meets_bounds all.bounds all.classes front ≡ true = list_all_implies
    (λ (c, values). list_all (value_reachable all front c) (enumerate_from 0 values))
    (λ (c, values). list_all (λ (v, bound). lies_within bound (taken_of (has_value c v) all.classes front)) (enumerate_from 0 values))
    (λ (c, values). list_all_implies (value_reachable all front c) (λ (v, bound). lies_within bound (taken_of (has_value c v) all.classes front))
    (λ (v, bound) reach. whole bound.lower bound.upper (taken_of (has_value c v) all.classes front) (rw after at reach))
    (enumerate_from 0 values))
    (enumerate_from 0 all.bounds) parts.1 in
    and_from (eqb (taken_by all front) all.size && meets_bounds all.bounds all.classes front) (takes_one_a_household all.classes front)
    (and_from (eqb (taken_by all front) all.size) (meets_bounds all.bounds all.classes front) (eq-eqb (taken_by all front) all.size (omega arith)) bounds) both.1
  where
    whole : (lower upper count : ℕ) → (leb count upper && leb lower (count + 0)) ≡ true → (leb lower count && leb count upper) ≡ true
    whole lower upper count h =
        let parts = and_parts (leb count upper) (leb lower (count + 0)) h in
        let l = leb-true lower (count + 0) parts.1 in and_from (leb lower count) (leb count upper) (le-leb lower count (omega arith)) parts.0

-- ---- the compositions that begin with a front

abbrev pub completions : Classes → List ℕ → List Class → List (List ℕ)
completions all front later = filter (is_composition all) (map (λ counts. front ++ counts) (all_counts later))

pub none_from_dead : (all : Classes) (pre later : List Class) (front : List ℕ) → Split all pre later front → InOrder later → is_reachable all front ≡ false → completions all front later ≡ []
none_from_dead all pre later front split order dead =
    none_pass (is_composition all) (map (λ counts. front ++ counts) (all_counts later))
    (each_mapped (λ counts. is_composition all counts ≡ false) (λ counts. front ++ counts) (all_counts later)
    (each_map (Gives later) (λ counts. is_composition all (front ++ counts) ≡ false)
    (λ counts gives. false_from_ne_true (is_composition all (front ++ counts)) (λ composes. false≢true (sym dead ∙ live_from_composition all pre later front counts split gives composes)))
    (all_counts later) (all_counts_give later order)))

joined : (front : List ℕ) (c : ℕ) (xs : List (List ℕ)) → map (λ counts. front ++ counts) (map (λ counts. c ∷ counts) xs) ≡ map (λ counts. (front ++ c ∷ []) ++ counts) xs
joined front c [] = refl
joined front c (x ∷ xs) =
    let e : front ++ (c ∷ x) ≡ (front ++ c ∷ []) ++ x = sym (append_assoc front (c ∷ []) x) in let rest = joined front c xs in cc

-- the compositions that begin with a front are those that begin with its children, in the order of the children
pub of_children : (all : Classes) (front : List ℕ) (later : List Class) (cs : List ℕ) →
    flat_map (λ child. completions all child later) (map (λ c. front ++ c ∷ []) cs)
    ≡ filter (is_composition all) (map (λ counts. front ++ counts) (flat_map (λ c. map (λ counts. c ∷ counts) (all_counts later)) cs))
of_children all front later [] = refl
of_children all front later (c ∷ cs) =
    let X = map (λ counts. c ∷ counts) (all_counts later) in
    let Y = flat_map (λ c. map (λ counts. c ∷ counts) (all_counts later)) cs in
    let rest = of_children all front later cs in
    let a = map-append (λ counts. front ++ counts) X Y in
    let b = filter-append (is_composition all) (map (λ counts. front ++ counts) X) (map (λ counts. front ++ counts) Y) in
    let j = joined front c (all_counts later) in
    rw (a, b, j, rest) refl

pub child_splits : (all : Classes) (pre later : List Class) (class : Class) (front : List ℕ) (c : ℕ) → Split all pre (class ∷ later) front → Split all (pre ++ class ∷ []) later (front ++ c ∷ [])
child_splits all pre later class front c split = record {
  whole = split.whole ∙ sym (append_assoc pre (class ∷ []) later);
  fits = omega (arith, split.fits, length-append front (c ∷ []), length-append pre (class ∷ []));
}

-- ---- the search

pub first : List (List ℕ) → Option (List ℕ)
first [] = None
first (x ∷ xs) = Some x

found_first : (one : Search) (rest : List Search) (xs ys : List (List ℕ)) → one.found ≡ first xs → (one_by_one rest).found ≡ first ys → (one_by_one (one ∷ rest)).found ≡ first (xs ++ ys)
unfolding first
found_first one rest [] ys e f = rw e f
found_first one rest (x ∷ xs) ys e f = rw e refl

pub in_turn_finds : (G : List ℕ → List (List ℕ)) (enter : List ℕ → Search) (live : List ℕ → Bool) (children : List (List ℕ)) →
    AllByRecursion (λ child. (live child ≡ true → (enter child).found ≡ first (G child)) × (live child ≡ false → G child ≡ [])) children →
    (one_by_one (map enter (filter live children))).found ≡ first (flat_map G children)
unfolding first
in_turn_finds G enter live [] h = refl
in_turn_finds G enter live (child ∷ children) h =
    let rest = in_turn_finds G enter live children h.1 in
    (elim (live child) as (λ b. live child ≡ b → (one_by_one (map enter (cond b (child ∷ filter live children) (filter live children)))).found ≡ first (G child ++ flat_map G children)) [
      | true ↦ λ e. found_first (enter child) (map enter (filter live children)) (G child) (flat_map G children) (h.0.0 e) rest
      | false ↦ λ e. let none = h.0.1 e in rw none rest
    ]) refl

enter_first_finds : (all : Classes) (pre later : List Class) (front : List ℕ) → Split all pre later front → InOrder later → is_reachable all front ≡ true →
    (enter_first all later front).found ≡ first (completions all front later)
unfolding first
enter_first_finds all pre [] front split order live =
    let composes = composition_from_live all pre front split live in
    let same = append-nil front in rw (same, composes) refl
enter_first_finds all pre (class ∷ later) front split order live =
    in_turn_finds (λ child. completions all child later) (λ child. enter_first all later child) (is_reachable all) (map (λ c. front ++ c ∷ []) (counts_of class))
    (each_mapped (λ child. (is_reachable all child ≡ true → (enter_first all later child).found ≡ first (completions all child later)) × (is_reachable all child ≡ false → completions all child later ≡ []))
    (λ c. front ++ c ∷ []) (counts_of class)
    (each_everywhere (λ c. (is_reachable all (front ++ c ∷ []) ≡ true → (enter_first all later (front ++ c ∷ [])).found ≡ first (completions all (front ++ c ∷ []) later)) × (is_reachable all (front ++ c ∷ []) ≡ false → completions all (front ++ c ∷ []) later ≡ []))
    (λ c. (
      λ live. enter_first_finds all (pre ++ class ∷ []) later (front ++ c ∷ []) (child_splits all pre later class front c split) order.1 live,
      λ dead. none_from_dead all (pre ++ class ∷ []) later (front ++ c ∷ []) (child_splits all pre later class front c split) order.1 dead,
    ))
    (counts_of class)))
    ∙ ap first (of_children all front later (counts_of class))

pub completions_of_none : (all : Classes) → completions all [] all.classes ≡ compositions all
completions_of_none all = ap (filter (is_composition all)) (map-id (all_counts all.classes))

pub empty_splits : (all : Classes) → Split all [] all.classes []
empty_splits all = record { whole = refl; fits = refl }

pub get_first : (xs : List (List ℕ)) → first xs ≡ slice_get xs 0
unfolding first
get_first [] = refl
get_first (x ∷ xs) = refl

pub search_finds_first : (all : Classes) → IsSearchable all → (first_search all).found ≡ first_composition all
search_finds_first all searchable =
    (elim (is_reachable all []) as (λ b. is_reachable all [] ≡ b → (cond b (enter_first all all.classes []) (record { visits = 1; found = None })).found ≡ first_composition all) [
      | true ↦ λ live. enter_first_finds all [] all.classes [] (empty_splits all) searchable.in_order live ∙ ap first (completions_of_none all) ∙ get_first (compositions all)
      | false ↦ λ dead. let none = none_from_dead all [] all.classes [] (empty_splits all) searchable.in_order dead in
          let empty : compositions all ≡ [] = sym (completions_of_none all) ∙ none in rw empty refl
    ]) refl
