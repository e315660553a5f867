-- The lines of a stage's search are in the ranges of a cover's text.
use Rattle.std.proofs.Common.{◌≡◌, ℕ, zero, suc, ◌+◌, ◌-◌, ◌≤◌, ◌<◌, Bool, true, false, cond, ◌&&◌, leb, ltb, List, [], ◌∷◌, ◌++◌, map, filter, length, get_or, Option, Some, None, refl, sym, ap, ap₂, ◌∙◌, arith, length-append}
use Rattle.std.specs.Prelude.{slice_index}
use Rattle.std.specs.List.{AllByRecursion, enumerate_from, flat_map, list_all, range_with_len}
use Rattle.std.proofs.lemmas.Bool.{and_from, and_parts, false≢true, le-leb, leb-true, lt-ltb}
use Rattle.std.proofs.lemmas.List.{get_or_default, length-map}
use Rattle.std.proofs.lemmas.List.Elements.{recursion_from_All}
use Rattle.std.proofs.lemmas.List.FromFn.{length-enumerate_from, length-range_with_len}
use Rattle.define_pools.proofs.Each.{each_append, each_mapped, each_range, list_all_from_each}
use Rattle.define_pools.proofs.Found.{find-each}
use Rattle.define_pools.proofs.Sums.{sum_by-is-total, total}
use Rattle.define_pools.specs.declared.Limits.TheVariants.{Large}
use Rattle.define_pools.specs.Pool.{BoundedValue, Category, Pool, most_volunteers}
use Rattle.define_pools.proofs.BuildingLemmas.{within_limits_for}
use Rattle.define_rows.specs.Row.{Row}
use Rattle.define_searches.specs.declared.Bounds.{Bounds}
use Rattle.define_searches.specs.Classes.{Class, Classes, KeepsLimits, bounds_of, class_by, classes_by, leaders}
use Rattle.define_searches.specs.Fronts.{sizes_of}
use Rattle.define_searches.proofs.Limits.{limits_kept}
use Rattle.define_checks.specs.Caps.{alike_at, classes_at, stage_row}
use Rattle.define_checks.proofs.CheckClasses.{alike_at_makes}
use Rattle.define_covers.specs.Causes.{all_values, applies}
use Rattle.define_covers.specs.Covers.{ByCap, ByClosed, ByHousehold, ByValue, Cause, FrontLine}
use Rattle.define_covers.specs.CoverRanges.{is_cause, is_front_line, is_numbered, most_count, value_count}
use Rattle.define_covers.specs.FrontOrder.{are_in_order, continues, turned}
use Rattle.define_covers.specs.Counts.{BeginningFits, Fits}
use Rattle.define_covers.specs.FirstCause.{causes, first_cause}
use Rattle.define_covers.specs.Made.{InRangesWhereSearched, SameValueCount}
use Rattle.define_covers.proofs.Counts.{fits_few, fits_within, front_fits, turned_fits}

-- ---- how many values there are

-- the values of numbered categories
abbrev values_of : List (ℕ × List Bounds) → List (ℕ × (ℕ × Bounds))
values_of categories = flat_map (λ (c, values). map (λ value. (c, value)) (enumerate_from 0 values)) categories

values_in_all : (first : ℕ) (categories : List Category) → length (values_of (enumerate_from first (bounds_of categories))) ≡ total (λ category. length category.values) categories
values_in_all first [] = refl
values_in_all first (category ∷ later) =
    let bound : BoundedValue → Bounds = λ value. record { lower = value.lower; upper = value.upper } in
    let here : List (ℕ × Bounds) = enumerate_from 0 (map bound category.values) in
    let tagged : ℕ × Bounds → ℕ × (ℕ × Bounds) = λ value. (first, value) in
    length-append (map tagged here) (values_of (enumerate_from (first + 1) (bounds_of later)))
    ∙ ap₂ (λ a b. a + b) (length-map here tagged ∙ length-enumerate_from 0 (map bound category.values) ∙ length-map category.values bound) (values_in_all (first + 1) later)

pub same_value_count : SameValueCount
same_value_count pool stages = values_in_all 0 pool.categories ∙ sym (sum_by-is-total (λ category. length category.values) pool.categories)

-- ---- how many classes there are

filter_few : {X : Type 0} (p : X → Bool) (xs : List X) → length (filter p xs) ≤ length xs
filter_few p [] = omega arith
filter_few p (x ∷ xs) =
    let rest = filter_few p xs in
    elim (p x) as (λ b. length (cond b (x ∷ filter p xs) (filter p xs)) ≤ length (x ∷ xs)) [
      | true ↦ omega arith
      | false ↦ omega arith
    ]

members_few : (pool : Pool) (alike : ℕ → ℕ → Bool) (t : ℕ) → slice_index (sizes_of (classes_by alike pool)) t ≤ length pool.volunteers
members_few pool alike = each (leaders alike (length pool.volunteers))
  where
    each : (firsts : List ℕ) (t : ℕ) → slice_index (map (λ (class : Class). length class.members) (map (class_by alike pool) firsts)) t ≤ length pool.volunteers
    each [] t = omega arith
    each (first ∷ firsts) zero = omega (arith, filter_few (alike first) (range_with_len 0 (length pool.volunteers)), length-range_with_len 0 (length pool.volunteers))
    each (first ∷ firsts) (suc t) = each firsts t

classes_few : (pool : Pool) (alike : ℕ → ℕ → Bool) → length (classes_by alike pool).classes ≤ length pool.volunteers
classes_few pool alike =
    let n = length pool.volunteers in
    let mapped = length-map (leaders alike n) (class_by alike pool) in
    omega (arith, mapped, leaders_few n, length-range_with_len 0 n)
  where
    leaders_few : (n : ℕ) → length (leaders alike n) ≤ length (range_with_len 0 n)
    leaders_few n = filter_few _ (range_with_len 0 n)

-- ---- a line is in its ranges

numbered : (last number : ℕ) → 1 ≤ number → number < 1 + last → is_numbered last number ≡ true
numbered last number l m = and_from (ltb 0 number) (leb number last) (lt-ltb 0 number (omega arith)) (le-leb number last (omega arith))

module _ (pool : Pool) (all : Classes) (closed : List Row) (row : Row) (stage : ℕ) (limits : KeepsLimits all) (values : length (all_values all) ≡ value_count pool) (few : length all.classes ≤ length pool.volunteers)
    (sizes : (t : ℕ) → slice_index (sizes_of all) t ≤ length pool.volunteers) (volunteers : length pool.volunteers ≤ most_volunteers Large) (at : stage ≡ length closed + 1) where
  causes_in_range : AllByRecursion (λ cause. is_cause pool stage cause ≡ true) (causes all closed)
  causes_in_range =
      let In : Cause → Type 0 = λ cause. is_cause pool stage cause ≡ true in
      let by_value : List Cause = map (λ number. ByValue number) (range_with_len 1 (length (all_values all))) in
      let by_row : List Cause = map (λ number. ByClosed number) (range_with_len 1 (length closed)) in (
        refl,
        each_append In by_value (ByHousehold ∷ (by_row ++ (ByCap ∷ [])))
            (each_mapped In (λ number. ByValue number) (range_with_len 1 (length (all_values all)))
            (each_range (λ number. In (ByValue number)) 1 (length (all_values all)) (λ number l m. numbered (value_count pool) number l (omega arith)))) (
              refl,
              each_append In by_row (ByCap ∷ [])
                  (each_mapped In (λ number. ByClosed number) (range_with_len 1 (length closed)) (each_range (λ number. In (ByClosed number)) 1 (length closed) (λ number l m. numbered (stage - 1) number l (omega arith))))
                  (refl, tt),
            ),
      )

  counts_in_range : (front : List ℕ) → Fits all.classes front → list_all (λ c. leb c (most_count (length pool.volunteers))) front ≡ true
  counts_in_range front fits =
      list_all_from_each (λ c. leb c (most_count (length pool.volunteers))) front
      (recursion_from_All (λ c. leb c (most_count (length pool.volunteers)) ≡ true) front
      (λ t d l. le-leb (get_or front t d) (most_count (length pool.volunteers)) (omega (arith, fits_within all front fits t l, sizes t, within_limits_for (length pool.volunteers) volunteers, get_or_default front t d 0 l))))

  line_in_range : (line : FrontLine) → Fits all.classes line.front → first_cause all closed row line.front ≡ Some line.cause → is_front_line pool stage line ≡ true
  line_in_range line fits first =
      and_from (is_cause pool stage line.cause && leb (length line.front) (length pool.volunteers)) (list_all (λ c. leb c (most_count (length pool.volunteers))) line.front)
      (and_from (is_cause pool stage line.cause) (leb (length line.front) (length pool.volunteers))
      (find-each (applies all closed row line.front) (λ cause. is_cause pool stage cause ≡ true) (causes all closed) line.cause causes_in_range first)
      (le-leb (length line.front) (length pool.volunteers) (omega (arith, fits_few all.classes line.front fits))))
      (counts_in_range line.front fits)

  next_fits : (front : List ℕ) → Fits all.classes front → (next : Option (List ℕ)) → turned all.classes front ≡ next → BeginningFits all next
  next_fits front fits None e = tt
  next_fits front fits (Some next) e = turned_fits all.classes front next fits e

  lines_in_ranges : (beginning : Option (List ℕ)) (lines : List FrontLine) → BeginningFits all beginning → are_in_order all.classes beginning (map (λ line. line.front) lines) ≡ true →
      AllByRecursion (λ line. first_cause all closed row line.front ≡ Some line.cause) lines → list_all (is_front_line pool stage) lines ≡ true
  lines_in_ranges None [] fits order firsts = refl
  lines_in_ranges None (line ∷ later) fits order firsts = absurd (false≢true order)
  lines_in_ranges (Some beginning) [] fits order firsts = absurd (false≢true order)
  lines_in_ranges (Some beginning) (line ∷ later) fits order firsts =
      let parts = and_parts (continues all.classes beginning line.front) (are_in_order all.classes (turned all.classes line.front) (map (λ line. line.front) later)) order in
      let here = front_fits all all.classes beginning line.front limits refl fits parts.0 in
      and_from (is_front_line pool stage line) (list_all (is_front_line pool stage) later) (line_in_range line here firsts.0)
      (lines_in_ranges (turned all.classes line.front) later (next_fits line.front here (turned all.classes line.front) refl) parts.1 firsts.1)

pub in_ranges_where_searched : InRangesWhereSearched
in_ranges_where_searched pool earlier stage lines is_pool searched =
    let alike = alike_at pool (stage ∷ earlier) in
    lines_in_ranges pool (classes_at pool (stage ∷ earlier)) (map (stage_row pool (stage ∷ earlier)) earlier) (stage_row pool (stage ∷ earlier) stage) (length earlier + 1)
    (limits_kept pool alike is_pool (alike_at_makes pool (stage ∷ earlier))) (same_value_count pool (stage ∷ earlier)) (classes_few pool alike)
    (members_few pool alike) (leb-true (length pool.volunteers) (most_volunteers Large) is_pool.few_volunteers) (ap (λ n. n + 1) (sym (length-map earlier (stage_row pool (stage ∷ earlier))))) (Some []) lines tt searched.in_order searched.causes
