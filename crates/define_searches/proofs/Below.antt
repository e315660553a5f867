-- The compositions that begin with a front, and the search below it, which keeps the best of them.
use Rattle.std.proofs.Common.{◌≡◌, ◌≢◌, ℕ, zero, suc, ◌+◌, ◌-◌, ◌≤◌, ◌<◌, Bool, true, false, cond, ◌&&◌, eqb, List, [], ◌∷◌, ◌++◌, map, length, filter, take, drop, fold, ℤ, Option, Some, None, refl, sym, ap, ◌∙◌, arith, subst, ⊎_elim}
use Rattle.std.specs.Prelude.{int_lt, ◌↔◌, IsTrue, IsFalse, slice_index, Contains, unwrap_or}
use Rattle.std.specs.List.{AllByRecursion, flat_map}
use Rattle.std.proofs.lemmas.Bool.{cases_eq, eq-eqb, false_from_ne_true, eqb-true}
use Rattle.std.proofs.lemmas.List.{append-nil, length-take-le, take-append-drop}
use Rattle.std.proofs.lemmas.List.Elements.{filter-append}
use borrow.Author.Differences.{lt-true, true_is_lt}
use Rattle.define_pools.proofs.Each.{each_map, each_filter, each_from_filter, each_right}
use Rattle.define_rows.specs.Row.{Row}
use Rattle.define_searches.specs.Classes.{Class, Classes, IsSearchable}
use Rattle.define_searches.specs.Compositions.{all_counts, attains, compositions, counts_down, first_greatest, is_composition, weight_in}
use Rattle.define_searches.specs.Fronts.{HaveEntries, is_live_above, later_than}
use Rattle.define_searches.specs.Visits.{Pricing, enter_best}
use Rattle.define_searches.proofs.Best.{none_above}
use Rattle.define_searches.proofs.BestSearch.{Kept, keep, keep_none, keeps_first_greatest, told, sought, none_better, enter_best_keeps}
use Rattle.define_searches.proofs.Contained.{each_itself, filtered}
use Rattle.define_searches.proofs.FirstSearch.{InOrder, Split, completions}
use Rattle.define_searches.specs.Below.{IsFront, QualifiesBelow, begins_with, below, best_below, search_from}

-- ---- fronts, class by class

-- counts for the first of these classes, each from the least to the most of its class
abbrev pub Fits : List Class → List ℕ → Type 0
Fits [] [] = Unit {0}
Fits [] (c ∷ front) = ⊥
Fits (class ∷ classes) [] = Unit {0}
Fits (class ∷ classes) (c ∷ front) = ((class.least ≤ c) × (c ≤ class.most)) × Fits classes front

pub fits_none : (classes : List Class) → Fits classes []
fits_none [] = tt
fits_none (class ∷ classes) = tt

fits_from : (classes : List Class) (front : List ℕ) → length front ≤ length classes → ((t : ℕ) → t < length front → slice_index (map (λ class. class.least) classes) t ≤ slice_index front t) →
    ((t : ℕ) → t < length front → slice_index front t ≤ slice_index (map (λ class. class.most) classes) t) → Fits classes front
fits_from [] [] few least most = tt
fits_from [] (c ∷ front) few least most = absurd (omega arith)
fits_from (class ∷ classes) [] few least most = tt
fits_from (class ∷ classes) (c ∷ front) few least most =
    ((least 0 (omega arith), most 0 (omega arith)), fits_from classes front (omega arith) (λ t l. least (suc t) (omega arith)) (λ t l. most (suc t) (omega arith)))

pub front_fits : (all : Classes) (front : List ℕ) → IsFront all front → Fits all.classes front
front_fits all front is = fits_from all.classes front is.few is.least is.most

fits_few : (classes : List Class) (front : List ℕ) → Fits classes front → length front ≤ length classes
fits_few [] [] fits = omega arith
fits_few [] (c ∷ front) fits = absurd fits
fits_few (class ∷ classes) [] fits = omega arith
fits_few (class ∷ classes) (c ∷ front) fits = omega (arith, fits_few classes front fits.1)

fits_at : (classes : List Class) (front : List ℕ) (t : ℕ) → Fits classes front → t < length front →
    (slice_index (map (λ class. class.least) classes) t ≤ slice_index front t) × (slice_index front t ≤ slice_index (map (λ class. class.most) classes) t)
fits_at classes [] t fits l = absurd (omega arith)
fits_at [] (c ∷ front) t fits l = absurd fits
fits_at (class ∷ classes) (c ∷ front) zero fits l = fits.0
fits_at (class ∷ classes) (c ∷ front) (suc t) fits l = fits_at classes front t fits.1 (omega arith)

pub fitting_is_front : (all : Classes) (front : List ℕ) → Fits all.classes front → IsFront all front
fitting_is_front all front fits =
    record { few = fits_few all.classes front fits; least = λ t l. (fits_at all.classes front t fits l).0; most = λ t l. (fits_at all.classes front t fits l).1 }

-- ---- the compositions that begin with a front

filters_swap : (p q : List ℕ → Bool) (xs : List (List ℕ)) → filter p (filter q xs) ≡ filter q (filter p xs)
filters_swap p q [] = refl
filters_swap p q (x ∷ xs) =
    let rest = filters_swap p q xs in
    (elim (p x) as (λ b. p x ≡ b → filter p (cond (q x) (x ∷ filter q xs) (filter q xs)) ≡ filter q (cond b (x ∷ filter p xs) (filter p xs))) [
      | true ↦ λ e. (elim (q x) as (λ c. filter p (cond c (x ∷ filter q xs) (filter q xs)) ≡ cond c (x ∷ filter q (filter p xs)) (filter q (filter p xs))) [
        | true ↦ rw e (ap (λ ys. x ∷ ys) rest)
        | false ↦ rest
      ])
      | false ↦ λ e. (elim (q x) as (λ c. filter p (cond c (x ∷ filter q xs) (filter q xs)) ≡ filter q (filter p xs)) [
        | true ↦ rw e rest
        | false ↦ rest
      ])
    ]) refl

-- the lists `d ∷ counts` that begin with `c ∷ front`: if `c` is `d`, those whose `counts` begin with `front`, else none
with_first : (c d : ℕ) (front : List ℕ) (xs : List (List ℕ)) → filter (begins_with (c ∷ front)) (map (λ counts. d ∷ counts) xs) ≡ cond (eqb c d) (map (λ counts. d ∷ counts) (filter (begins_with front) xs)) []
with_first c d front [] = by (eqb c d)
  where
    by : (b : Bool) → ◌≡◌ {A = List (List ℕ)} [] (cond b [] [])
    by true = refl
    by false = refl
with_first c d front (x ∷ xs) = by (eqb c d) (with_first c d front xs)
  where
    others : List (List ℕ)
    others = filter (begins_with (c ∷ front)) (map (λ counts. d ∷ counts) xs)

    by : (b : Bool) → others ≡ cond b (map (λ counts. d ∷ counts) (filter (begins_with front) xs)) [] →
        cond (b && begins_with front x) ((d ∷ x) ∷ others) others ≡ cond b (map (λ counts. d ∷ counts) (cond (begins_with front x) (x ∷ filter (begins_with front) xs) (filter (begins_with front) xs))) []
    by true rest =
        elim (begins_with front x) as (λ b. cond b ((d ∷ x) ∷ others) others ≡ map (λ counts. d ∷ counts) (cond b (x ∷ filter (begins_with front) xs) (filter (begins_with front) xs))) [
          | true ↦ ap (λ ys. (d ∷ x) ∷ ys) rest
          | false ↦ rest
        ]
    by false rest = rest

-- if no list for a count other than `c` satisfies `p`, the lists that satisfy it are those of `lists c` that do
module _ (p : List ℕ → Bool) (lists : ℕ → List (List ℕ)) (c : ℕ) (others : (d : ℕ) → c ≢ d → filter p (lists d) ≡ []) where
  none_left : (least more : ℕ) → least + more < c → filter p (flat_map lists (counts_down least more)) ≡ []
  none_left least zero l = filter-append p (lists least) [] ∙ ap (λ xs. xs ++ []) (others least (λ e. absurd (omega arith)))
  none_left least (suc more) l =
      filter-append p (lists (least + suc more)) (flat_map lists (counts_down least more))
      ∙ ap (λ xs. xs ++ filter p (flat_map lists (counts_down least more))) (others (least + suc more) (λ e. absurd (omega arith)))
      ∙ none_left least more (omega arith)

  one_count : (least more : ℕ) → least ≤ c → c ≤ least + more → filter p (flat_map lists (counts_down least more)) ≡ filter p (lists c)
  one_count least zero l m = let same : least ≡ c = omega arith in ap (λ d. filter p (lists d ++ [])) same ∙ ap (filter p) (append-nil (lists c))
  one_count least (suc more) l m =
      filter-append p (lists (least + suc more)) (flat_map lists (counts_down least more))
      ∙ ⊎_elim
      (λ (e : c ≡ least + suc more). ap (λ xs. filter p (lists (least + suc more)) ++ xs) (none_left least more (omega arith))
      ∙ append-nil (filter p (lists (least + suc more))) ∙ ap (λ d. filter p (lists d)) (sym e))
      (λ (e : c ≢ least + suc more). ap (λ xs. xs ++ filter p (flat_map lists (counts_down least more))) (others (least + suc more) e) ∙ one_count least more l (last_left m e))
      (cases_eq c (least + suc more))
    where
      last_left : c ≤ least + suc more → c ≢ least + suc more → c ≤ least + more
      last_left a b = omega arith

all_begin : (xs : List (List ℕ)) → filter (begins_with []) xs ≡ map (λ counts. [] ++ counts) xs
all_begin [] = refl
all_begin (x ∷ xs) = ap (λ ys. x ∷ ys) (all_begin xs)

joined : (c : ℕ) (front : List ℕ) (xs : List (List ℕ)) → map (λ counts. c ∷ counts) (map (λ counts. front ++ counts) xs) ≡ map (λ counts. (c ∷ front) ++ counts) xs
joined c front [] = refl
joined c front (x ∷ xs) = ap (λ ys. (c ∷ front ++ x) ∷ ys) (joined c front xs)

lists_begin : (classes : List Class) (front : List ℕ) → Fits classes front → filter (begins_with front) (all_counts classes) ≡ map (λ counts. front ++ counts) (all_counts (drop (length front) classes))
lists_begin [] [] fits = refl
lists_begin [] (c ∷ front) fits = absurd fits
lists_begin (class ∷ classes) [] fits = all_begin (all_counts (class ∷ classes))
lists_begin (class ∷ classes) (c ∷ front) fits =
    let p = begins_with (c ∷ front) in
    let lists : ℕ → List (List ℕ) = λ d. map (λ counts. d ∷ counts) (all_counts classes) in
    one_count p lists c (λ d other. with_first c d front (all_counts classes) ∙ ap (λ b. cond b (map (λ counts. d ∷ counts) (filter (begins_with front) (all_counts classes))) []) (differ c d other))
    class.least (class.most - class.least) fits.0.0 (omega (arith, fits.0.0, fits.0.1))
    ∙ with_first c c front (all_counts classes)
    ∙ ap (λ b. cond b (map (λ counts. c ∷ counts) (filter (begins_with front) (all_counts classes))) []) (eq-eqb c c refl)
    ∙ ap (map (λ counts. c ∷ counts)) (lists_begin classes front fits.1)
    ∙ joined c front (all_counts (drop (length front) classes))
  where
    differ : (c d : ℕ) → c ≢ d → eqb c d ≡ false
    differ c d other = false_from_ne_true (eqb c d) (λ e. other (eqb-true c d e))

-- the compositions that begin with a front are its completions
pub below_goes_on : (all : Classes) (front : List ℕ) → IsFront all front → below all front ≡ completions all front (later_than front all.classes)
below_goes_on all front is =
    filters_swap (begins_with front) (is_composition all) (all_counts all.classes) ∙ ap (filter (is_composition all)) (lists_begin all.classes front (front_fits all front is))

-- ---- the search below a front

pub front_splits : (all : Classes) (front : List ℕ) → length front ≤ length all.classes → Split all (take (length front) all.classes) (later_than front all.classes) front
front_splits all front few = record { whole = sym (take-append-drop (length front) all.classes); fits = sym (length-take-le (length front) all.classes few) }

later_in_order : (all : Classes) (front : List ℕ) → IsSearchable all → InOrder (later_than front all.classes)
later_in_order all front searchable =
    each_right (λ (class : Class). class.least ≤ class.most) (take (length front) all.classes) (later_than front all.classes)
    (subst InOrder (sym (take-append-drop (length front) all.classes)) searchable.in_order)

pub from_keeps : (all : Classes) (closed : List Row) (row : Row) (front : List ℕ) (floor : ℤ) → IsSearchable all → HaveEntries all (row ∷ closed) → length front ≤ length all.classes →
    told (search_from all closed row front floor) ≡ fold (keep (weight_in row.a)) (floor, None) (sought all closed front (later_than front all.classes))
from_keeps all closed row front floor searchable entries few =
    let begun : Pricing = record { visits = 0; floor = floor; kept = None } in
    let later = later_than front all.classes in
    let split = front_splits all front few in
    let order = later_in_order all front searchable in
    (elim (is_live_above all closed row floor front) as (λ b. is_live_above all closed row floor front ≡ b →
    told (cond b (enter_best all closed row later front begun) begun) ≡ fold (keep (weight_in row.a)) (floor, None) (sought all closed front later)) [
      | true ↦ λ live. enter_best_keeps all closed row (take (length front) all.classes) later front begun split order entries live
      | false ↦ λ dead. sym (keep_none (weight_in row.a) floor None (sought all closed front later) (none_better all closed row floor (take (length front) all.classes) later front split order entries dead))
    ]) refl

-- of the lists that `sought` has for `front`, the search below `front` keeps the first of greatest weight above the floor. This holds of
-- any counts `front`, even if they are no front
pub finds_greatest : (all : Classes) (closed : List Row) (row : Row) (front : List ℕ) (floor : ℤ) → IsSearchable all → HaveEntries all (row ∷ closed) → length front ≤ length all.classes →
    (search_from all closed row front floor).kept ≡ first_greatest (weight_in row.a) floor (sought all closed front (later_than front all.classes))
finds_greatest all closed row front floor searchable entries few =
    ap (λ (now : Kept). now.1) (from_keeps all closed row front floor searchable entries few)
    ∙ keeps_first_greatest (weight_in row.a) floor (sought all closed front (later_than front all.classes))

pub finds_best : (all : Classes) (closed : List Row) (row : Row) (front : List ℕ) (floor : ℤ) → IsSearchable all → HaveEntries all (row ∷ closed) → IsFront all front →
    (search_from all closed row front floor).kept ≡ best_below all closed row front floor
finds_best all closed row front floor searchable entries is =
    finds_greatest all closed row front floor searchable entries is.few
    ∙ ap (λ xs. first_greatest (weight_in row.a) floor (filter (attains closed) xs)) (sym (below_goes_on all front is))

-- ---- what holds of the composition that is found

-- if P holds of each list, it holds of the first of greatest weight above the floor, which weighs more than the floor
pub greatest_is : (P : List ℕ → Type 0) (weight : List ℕ → ℤ) (floor : ℤ) (xs : List (List ℕ)) (counts : List ℕ) → AllByRecursion P xs → first_greatest weight floor xs ≡ Some counts →
    P counts × (int_lt floor (weight counts) ≡ true)
greatest_is P weight floor [] counts each e = absurd cc
greatest_is P weight floor (x ∷ xs) counts each e =
    by (int_lt floor (weight x)) refl (λ z n. greatest_is P weight (weight x) xs z each.1 n) (λ s. greatest_is P weight floor xs counts each.1 s) e
  where
    above_above : (a b c : ℤ) → int_lt a b ≡ true → int_lt b c ≡ true → int_lt a c ≡ true
    above_above a b c e f = sym (true_is_lt a c (omega (arith, lt-true a b e, lt-true b c f)))

    here : int_lt floor (weight x) ≡ true → ((z : List ℕ) → first_greatest weight (weight x) xs ≡ Some z → P z × (int_lt (weight x) (weight z) ≡ true)) → (o : Option (List ℕ)) → first_greatest weight (weight x) xs ≡ o →
        Some (unwrap_or o x) ≡ Some counts → P counts × (int_lt floor (weight counts) ≡ true)
    here t further None n s = let same : x ≡ counts = cc in subst (λ z. P z × (int_lt floor (weight z) ≡ true)) same (each.0, t)
    here t further (Some z) n s = let same : z ≡ counts = cc in
        subst (λ z. P z × (int_lt floor (weight z) ≡ true)) same ((further z n).0, above_above floor (weight x) (weight z) t (further z n).1)

    by : (b : Bool) → int_lt floor (weight x) ≡ b → ((z : List ℕ) → first_greatest weight (weight x) xs ≡ Some z → P z × (int_lt (weight x) (weight z) ≡ true)) →
        (first_greatest weight floor xs ≡ Some counts → P counts × (int_lt floor (weight counts) ≡ true)) →
        cond b (Some (unwrap_or (first_greatest weight (weight x) xs) x)) (first_greatest weight floor xs) ≡ Some counts → P counts × (int_lt floor (weight counts) ≡ true)
    by true t further rest s = here t further (first_greatest weight (weight x) xs) refl s
    by false t further rest s = rest s

pub found_qualifies : (all : Classes) (closed : List Row) (row : Row) (front : List ℕ) (floor : ℤ) (counts : List ℕ) → best_below all closed row front floor ≡ Some counts → QualifiesBelow all closed row front floor counts
found_qualifies all closed row front floor counts e =
    let begun = filtered (Contains (compositions all)) (begins_with front) (compositions all) (each_itself (compositions all)) in
    let attaining = filtered (λ x. Contains (compositions all) x × (begins_with front x ≡ true)) (attains closed) (below all front) begun in
    let found = greatest_is (λ x. (Contains (compositions all) x × (begins_with front x ≡ true)) × (attains closed x ≡ true)) (weight_in row.a) floor (filter (attains closed) (below all front)) counts attaining e in
    record { composition = found.0.0.0; begun = found.0.0.1; attained = found.0.1; above = found.1 }

-- ---- when nothing is found

none_found : (weight : List ℕ → ℤ) (floor : ℤ) (xs : List (List ℕ)) → AllByRecursion (λ x. int_lt floor (weight x) ≡ false) xs → first_greatest weight floor xs ≡ None
none_found weight floor [] h = refl
none_found weight floor (x ∷ xs) h = let e = h.0 in rw e (none_found weight floor xs h.1)

pub none_where : (all : Classes) (closed : List Row) (row : Row) (front : List ℕ) (floor : ℤ) →
    best_below all closed row front floor ≡ None ↔ AllByRecursion (λ counts. IsTrue (attains closed counts) → IsFalse (int_lt floor (weight_in row.a counts))) (below all front)
none_where all closed row front floor = (
  λ none. each_map (λ counts. attains closed counts ≡ true → int_lt floor (weight_in row.a counts) ≡ false) (λ counts. IsTrue (attains closed counts) → IsFalse (int_lt floor (weight_in row.a counts)))
      (λ counts h t. h t) (below all front)
      (each_from_filter (λ counts. int_lt floor (weight_in row.a counts) ≡ false) (attains closed) (below all front) (none_above (weight_in row.a) floor (filter (attains closed) (below all front)) none)),
  λ each. none_found (weight_in row.a) floor (filter (attains closed) (below all front))
      (each_filter (λ counts. int_lt floor (weight_in row.a counts) ≡ false) (attains closed) (below all front)
      (each_map (λ counts. IsTrue (attains closed counts) → IsFalse (int_lt floor (weight_in row.a counts))) (λ counts. attains closed counts ≡ true → int_lt floor (weight_in row.a counts) ≡ false)
      (λ counts h t. h t) (below all front) each)),
)
