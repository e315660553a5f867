-- The counts and the marks that a course keeps give the reasons of a stage.
use Rattle.std.proofs.Common.{◌≡◌, ℕ, ◌+◌, ◌<◌, ◌≤◌, Bool, true, false, not, ◌||◌, eqb, ltb, List, [], ◌∷◌, length, map, filter, get_or, take, drop, Option, ℤ, pos, refl, sym, ap, ap₂, ◌∙◌, arith}
use Rattle.std.specs.Prelude.{int_lt, reverse}
use Rattle.std.specs.List.{AllByRecursion, find, range_with_len}
use Rattle.std.specs.Ordering.{int_eq}
use Rattle.std.proofs.lemmas.Bool.{eq-eqb, eqb-true, lt-ltb, ltb-true}
use Rattle.std.proofs.lemmas.Cmp.{int_eq_equiv}
use Rattle.std.proofs.lemmas.Int.{ints}
use Rattle.std.proofs.lemmas.List.{length-reverse, length-take-le, take_more, reverse-append}
use Rattle.std.proofs.lemmas.List.FromFn.{fill_by_all, get_or-map-range_with_len, length-map-range_with_len}
use Rattle.define_pools.proofs.Each.{each_filter, each_map, each_range}
use Rattle.define_pools.proofs.Found.{find_same}
use Rattle.define_pools.proofs.Integers.{eq-tested, lt-tested, same_pos, tested-lt}
use Rattle.define_pools.proofs.Lists.{filter_same, map-map}
use Rattle.define_pools.specs.Certificate.{Stage, is_positive, is_settled, settling, unsettled}
use Rattle.define_pools.specs.Lottery.{Lottery, count, counts}
use Rattle.define_pools.specs.Pool.{Pool, everybody}
use Rattle.define_checks.specs.Reasons.{first_count as first_count_of, first_reason, one, reason, reasons_before_cap, reasons_from}
use Rattle.check_reasons.proofs.HouseholdNumbers.{same_tests}
use Rattle.check_reasons.specs.Courses.{Course, Keeps, count_at, first_count, kept_reasons}

-- Counts are equal as signed numbers exactly if they are equal as natural numbers.
same_eq : (a b : ℕ) → int_eq (pos a) (pos b) ≡ eqb a b
same_eq a b =
    same_tests (int_eq (pos a) (pos b)) (eqb a b) (λ e. eq-eqb a b (same_pos a b (eq-tested (pos a) (pos b) e)))
    (λ e. ap (λ n. int_eq (pos a) (pos n)) (sym (eqb-true a b e)) ∙ int_eq_equiv.refl (pos a))

same_lt : (a b : ℕ) → int_lt (pos a) (pos b) ≡ ltb a b
same_lt a b =
    same_tests (int_lt (pos a) (pos b)) (ltb a b) (λ e. lt-ltb a b (let less = lt-tested (pos a) (pos b) e in omega (arith, ints)))
    (λ e. tested-lt (pos a) (pos b) (let less = ltb-true a b e in omega (arith, ints)))

module _ (course : Course) (counted : List ℤ) (marks : List Bool) (keeps : Keeps course counted marks) where
  abbrev n : ℕ
  n = length course.pool.volunteers

  abbrev free : List ℕ
  free = unsettled course.pool course.earlier

  count_kept : (i : ℕ) → i < n → count_at counted i ≡ pos (count course.lottery i)
  count_kept i below =
      ap (λ (xs : List ℤ). get_or xs i (pos 0)) (keeps.chances ∙ map-map (λ n. pos n) (count course.lottery) (everybody course.pool))
      ∙ get_or-map-range_with_len (λ i. pos (count course.lottery i)) 0 n i i (pos 0) below (omega arith)

  pub settled_kept : (i : ℕ) → i < n → get_or marks i false ≡ is_settled course.earlier i
  settled_kept i below = ap (λ (xs : List Bool). get_or xs i false) keeps.settled ∙ get_or-map-range_with_len (is_settled course.earlier) 0 n i i false below (omega arith)

  pub many_marks : length marks ≡ n
  many_marks = ap (λ (xs : List Bool). length xs) keeps.settled ∙ length-map-range_with_len (is_settled course.earlier) 0 n

  same_marks : AllByRecursion (λ i. not (get_or marks i false) ≡ not (is_settled course.earlier i)) (everybody course.pool)
  same_marks = each_range (λ i. not (get_or marks i false) ≡ not (is_settled course.earlier i)) 0 n (λ i low high. ap not (settled_kept i (omega arith)))

  pub unsettled_is : filter (λ i. not (get_or marks i false)) (range_with_len 0 (length marks)) ≡ free
  unsettled_is =
      ap (λ m. filter (λ i. not (get_or marks i false)) (range_with_len 0 m)) many_marks
      ∙ filter_same (λ i. not (get_or marks i false)) (λ i. not (is_settled course.earlier i)) (everybody course.pool) same_marks

  pub left_is : find (λ i. not (get_or marks i false)) (range_with_len 0 (length marks)) ≡ find (λ i. not (is_settled course.earlier i)) (everybody course.pool)
  left_is =
      ap (λ m. find (λ i. not (get_or marks i false)) (range_with_len 0 m)) many_marks
      ∙ find_same (λ i. not (get_or marks i false)) (λ i. not (is_settled course.earlier i)) (everybody course.pool) same_marks

  free_below : AllByRecursion (λ i. i < n) free
  free_below =
      each_filter (λ i. i < n) (λ i. not (is_settled course.earlier i)) (everybody course.pool)
      (each_range (λ i. not (is_settled course.earlier i) ≡ true → i < n) 0 n (λ i low high passes. omega arith))

  module _ (stage : Stage) where
    abbrev those : List ℕ
    those = settling course.pool course.earlier stage

    those_below : AllByRecursion (λ i. i < n) those
    those_below = each_filter (λ i. i < n) (is_positive stage) free (each_map (λ i. i < n) (λ i. is_positive stage i ≡ true → i < n) (λ i below passes. below) free free_below)

    first_kept : (xs : List ℕ) → AllByRecursion (λ i. i < n) xs → first_count counted xs ≡ pos (first_count_of course.lottery xs)
    first_kept [] below = refl
    first_kept (i ∷ xs) below = count_kept i below.0

    other_is : find (λ i. not (int_eq (count_at counted i) (first_count counted those))) those
        ≡ find (λ i. not (eqb (count course.lottery i) (first_count_of course.lottery those))) those
    other_is =
        find_same (λ i. not (int_eq (count_at counted i) (first_count counted those))) (λ i. not (eqb (count course.lottery i) (first_count_of course.lottery those))) those
        (each_map (λ i. i < n) (λ i. not (int_eq (count_at counted i) (first_count counted those)) ≡ not (eqb (count course.lottery i) (first_count_of course.lottery those)))
        (λ i below. ap₂ (λ a b. not (int_eq a b)) (count_kept i below) (first_kept those those_below) ∙ ap not (same_eq (count course.lottery i) (first_count_of course.lottery those))) those those_below)

    lower_is : find (λ i. int_lt (count_at counted i) (first_count counted those)) free ≡ find (λ i. ltb (count course.lottery i) (first_count_of course.lottery those)) free
    lower_is =
        find_same (λ i. int_lt (count_at counted i) (first_count counted those)) (λ i. ltb (count course.lottery i) (first_count_of course.lottery those)) free
        (each_map (λ i. i < n) (λ i. int_lt (count_at counted i) (first_count counted those) ≡ ltb (count course.lottery i) (first_count_of course.lottery those))
        (λ i below. ap₂ int_lt (count_kept i below) (first_kept those those_below) ∙ same_lt (count course.lottery i) (first_count_of course.lottery those)) free free_below)

    pub reasons_are : (numbers : List ℕ) → numbers ≡ free → kept_reasons counted numbers (length course.earlier + 1) stage ≡ reasons_before_cap course.pool course.lottery course.earlier stage
    reasons_are numbers e = ap (λ xs. kept_reasons counted xs (length course.earlier + 1) stage) e ∙ (let other = other_is in let lower = lower_is in rw (other, lower) refl)

    pub before_cap_is : (kept : List ℤ) (numbers : List ℕ) (number : ℕ) → kept ≡ counted → numbers ≡ filter (λ i. not (get_or marks i false)) (range_with_len 0 (length marks)) → number ≡ length course.earlier + 1 →
        kept_reasons kept numbers number stage ≡ reasons_before_cap course.pool course.lottery course.earlier stage
    before_cap_is kept numbers number e f g =
        ap (λ counted. kept_reasons counted numbers number stage) e ∙ ap (λ number. kept_reasons counted numbers number stage) g ∙ reasons_are numbers (f ∙ unsettled_is)

  pub left_with : (found : Option ℕ) (number : ℕ) → found ≡ find (λ i. not (get_or marks i false)) (range_with_len 0 (length marks)) → number ≡ length course.earlier →
      first_reason (reason number 10 (one found) ∷ []) ≡ first_reason (reasons_from course.pool course.lottery course.earlier [])
  left_with found number e f = ap₂ (λ number found. first_reason (reason number 10 (one found) ∷ [])) f (e ∙ left_is)

-- ---- the stages that are passed

pub many_passed : (stages : List Stage) (p : ℕ) → p ≤ length stages → length (reverse (take p stages)) ≡ p
many_passed stages p l = length-reverse (take p stages) ∙ length-take-le p stages l

pub next_passed : (stages : List Stage) (p : ℕ) (d : Stage) → p < length stages → reverse (take (p + 1) stages) ≡ get_or stages p d ∷ reverse (take p stages)
next_passed stages p d l = ap reverse (take_more stages p d l) ∙ reverse-append (take p stages) (get_or stages p d ∷ [])

-- If `new` also marks those whom the next stage settles, `Keeps` holds after that stage.
pub marks_more : (pool : Pool) (lottery : Lottery) (stages : List Stage) (p : ℕ) (stage : Stage) (counted : List ℤ) (marks new : List Bool) → p < length stages → stage ≡ get_or stages p stage →
    Keeps (record { pool = pool; lottery = lottery; earlier = reverse (take p stages); later = drop p stages }) counted marks → length new ≡ length marks →
    ((i : ℕ) → i < length marks → get_or new i false ≡ (is_positive stage i || get_or marks i false)) →
    Keeps (record { pool = pool; lottery = lottery; earlier = reverse (take (p + 1) stages); later = drop (p + 1) stages }) counted new
marks_more pool lottery stages p stage counted marks new l e keeps same marked =
    let course : Course = record { pool = pool; lottery = lottery; earlier = reverse (take p stages); later = drop p stages } in
    let n = length pool.volunteers in
    let many = many_marks course counted marks keeps in
    let earlier : reverse (take (p + 1) stages) ≡ stage ∷ reverse (take p stages) = next_passed stages p stage l ∙ ap (λ s. s ∷ reverse (take p stages)) (sym e) in
    record {
      chances = keeps.chances;
      settled = fill_by_all (is_settled (reverse (take (p + 1) stages))) new n false (same ∙ many)
          (λ i below. marked i (omega arith) ∙ ap (λ b. is_positive stage i || b) (settled_kept course counted marks keeps i below) ∙ sym (ap (λ stages. is_settled stages i) earlier));
    }

-- If `counted` has each volunteer's count, and no volunteer is marked, `Keeps` holds before the first stage.
pub none_settled : (pool : Pool) (lottery : Lottery) (stages : List Stage) (counted : List ℤ) (marks : List Bool) → counted ≡ map pos (counts pool lottery) → length marks ≡ length pool.volunteers →
    ((i : ℕ) → i < length pool.volunteers → get_or marks i false ≡ false) → Keeps (record { pool = pool; lottery = lottery; earlier = []; later = stages }) counted marks
none_settled pool lottery stages counted marks e many none = record {
  chances = e;
  settled = fill_by_all (is_settled []) marks (length pool.volunteers) false many none;
}
