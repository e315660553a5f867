-- What a tally says of the front that it tracks: whether the panel's size can still be reached, whether it takes at most 999 members with
-- each value, and the front's sure cost, which all counts
-- that begin with it cost at least.
use Rattle.std.proofs.Common.{suc, zero, ◌≡◌, ℕ, ◌+◌, ◌-◌, ◌*◌, ◌≤◌, ◌<◌, Bool, true, false, ◌&&◌, leb, List, [], ◌∷◌, length, drop, map, sum_by, get_or, refl, sym, ap, ◌∙◌, arith, subst}
use Rattle.std.specs.Prelude.{slice_index, slice_index_or}
use Rattle.std.specs.List.{enumerate_from, list_all, AllByRecursion}
use Rattle.std.proofs.lemmas.Bool.{and_from, le-leb}
use Rattle.define_pools.proofs.Sums.{sum_by-is-total, total}
use Rattle.define_searches.specs.declared.Bounds.{Bounds}
use Rattle.define_searches.specs.Classes.{Class, Classes, KeepsLimits}
use Rattle.define_searches.specs.Compositions.{has_value, taken_of}
use Rattle.define_searches.specs.Fronts.{later_than, most_given, size_reachable, taken_by, value_reachable, values_reachable}
use Rattle.define_searches.specs.Front.{FrontTally, Tracks}
use Rattle.define_searches.specs.Tallies.{AreAtMost, cell}
use Rattle.define_searches.proofs.Tracking.{few_places, most_of_none, taken_within_all}
use Rattle.define_quotas.specs.Costs.{cost, sure_cost, surely_missed, widened}
use Rattle.define_quotas.specs.Teams.{missed_by}
use Rattle.quota_loosen.specs.Sums.{are_few, missed_in, missed_in_all}

reach_equal : (size a b c d : ℕ) → a ≡ b → c ≡ d → (leb a size && leb size (a + c)) ≡ (leb b size && leb size (b + d))
reach_equal size a b c d e f = ap (λ n. leb n size && leb size (n + c)) e ∙ ap (λ n. leb b size && leb size (b + n)) f

pub size_of_front : (all : Classes) (front : List ℕ) (tally : FrontTally) → Tracks all front (drop (length front) all.classes) tally →
    size_reachable all front ≡ (leb tally.taken all.size && leb all.size (tally.taken + tally.later_taken))
size_of_front all front tally tracks = reach_equal all.size _ _ _ _ (sym tracks.taken) (sym tracks.later_taken)

-- two tests of a numbered list and of its image agree if they agree at each place
tests_equal : {X Y : Type 0} (f : ℕ × X → Bool) (g : ℕ × Y → Bool) (image : X → Y) (first : ℕ) (xs : List X) (d : X) →
    ((i : ℕ) → i < length xs → f (first + i, get_or xs i d) ≡ g (first + i, image (get_or xs i d))) → list_all f (enumerate_from first xs) ≡ list_all g (enumerate_from first (map image xs))
tests_equal f g image first [] d h = refl
tests_equal f g image first (x ∷ xs) d h =
    let e : first + 0 ≡ first = omega arith in
    let here : f (first, x) ≡ g (first, image x) = subst (λ k. f (k, x) ≡ g (k, image x)) e (h 0 (omega arith)) in
    let rest = tests_equal f g image (first + 1) xs d (λ i l. let s : first + suc i ≡ first + 1 + i = omega arith in subst (λ k. f (k, get_or xs i d) ≡ g (k, image (get_or xs i d))) s (h (suc i) (omega arith))) in
    rw (here, rest) refl

images_agree : {X Y : Type 0} (f : ℕ × X → Bool) (g : ℕ × Y → Bool) (image : X → Y) (xs : List X) (d : X) →
    ((i : ℕ) → i < length xs → f (i, get_or xs i d) ≡ g (i, image (get_or xs i d))) → list_all f (enumerate_from 0 xs) ≡ list_all g (enumerate_from 0 (map image xs))
images_agree f g image xs d h =
    tests_equal f g image 0 xs d (λ i l. let s : i ≡ 0 + i = omega arith in subst (λ k. f (k, get_or xs i d) ≡ g (k, image (get_or xs i d))) s (h i l))

few_taken : (count more : ℕ) → leb count 999 ≡ (leb count 999 && leb 0 (count + more))
few_taken count more =
    elim (leb count 999) as (λ b. b ≡ (b && leb 0 (count + more))) [
      | true ↦ sym (le-leb 0 (count + more) (omega arith))
      | false ↦ refl
    ]

-- a test of each value, which passes exactly if a front takes at most 999 members with the value, says whether the values with the widest
-- bounds are within the front's reach
values_same : (all : Classes) (front : List ℕ) (few : ℕ → ℕ → Bool) →
    ((c v : ℕ) → c < length all.bounds → v < length (get_or all.bounds c []) → few c v ≡ leb (taken_of (has_value c v) all.classes front) 999) →
    list_all (λ (c, values). list_all (λ (v, bound). few c v) (enumerate_from 0 values)) (enumerate_from 0 all.bounds) ≡ values_reachable (widened all) front
values_same all front few h =
    images_agree (λ (c, values). list_all (λ (v, bound). few c v) (enumerate_from 0 values)) (λ (c, values). list_all (value_reachable (widened all) front c) (enumerate_from 0 values))
    (λ values. map wide values) all.bounds [] (λ c below.
    images_agree (λ (v, bound). few c v) (value_reachable (widened all) front c) wide (get_or all.bounds c []) (record { lower = 0; upper = 0 }) (λ v inside.
    h c v below inside ∙ few_taken (taken_of (has_value c v) all.classes front) (most_given (has_value c v) (later_than front all.classes))))
  where
    wide : Bounds → Bounds
    wide bound = record { lower = 0; upper = 999 }

pub few_in_cells : (all : Classes) (front : List ℕ) (tally : FrontTally) → KeepsLimits all → Tracks all front (drop (length front) all.classes) tally →
    list_all (λ (c, values). are_few values tally.held c) (enumerate_from 0 all.bounds) ≡ values_reachable (widened all) front
few_in_cells all front tally limits tracks =
    values_same all front (λ c v. leb (slice_index tally.held (cell c v)) 999) (λ c v below inside.
    let few = few_places all limits c below in ap (λ n. leb n 999) (tracks.held c v below (omega arith)))

all_pass : {X : Type 0} (p : ℕ × X → Bool) → ((n : ℕ) (x : X) → p (n, x) ≡ true) → (first : ℕ) (xs : List X) → list_all p (enumerate_from first xs) ≡ true
all_pass p h first [] = refl
all_pass p h first (x ∷ xs) = and_from (p (first, x)) (list_all p (enumerate_from (first + 1) xs)) (h first x) (all_pass p h (first + 1) xs)

-- a front that takes at most 999 members takes at most 999 of each value
pub few_in_all : (all : Classes) (front : List ℕ) (tally : FrontTally) → Tracks all front (drop (length front) all.classes) tally → tally.taken ≤ 999 →
    values_reachable (widened all) front ≡ true
few_in_all all front tally tracks few =
    sym (values_same all front (λ c v. true) (λ c v below inside.
    sym (le-leb (taken_of (has_value c v) all.classes front) 999 (omega (arith, tracks.taken, few, taken_within_all (has_value c v) all.classes front)))))
    ∙ all_pass (λ (c, values). list_all (λ (v, bound). true) (enumerate_from 0 values)) (λ c values. all_pass (λ x. true) (λ v bound. refl) 0 values) 0 all.bounds

pub small_held : (all : Classes) (front : List ℕ) (rest : List Class) (tally : FrontTally) → taken_by all front ≤ 5000 → Tracks all front rest tally → AreAtMost 1000000 (length all.bounds) tally.held
small_held all front rest tally small tracks = λ c v a b. omega (arith, tracks.held c v a b, small, taken_within_all (has_value c v) all.classes front)

-- two sums over a numbered list are equal if their terms are equal at each place
terms_equal : {X : Type 0} (f g : ℕ × X → ℕ) (first : ℕ) (xs : List X) (d : X) → ((i : ℕ) → i < length xs → f (first + i, get_or xs i d) ≡ g (first + i, get_or xs i d)) →
    total f (enumerate_from first xs) ≡ total g (enumerate_from first xs)
terms_equal f g first [] d h = refl
terms_equal f g first (x ∷ xs) d h =
    let e : first + 0 ≡ first = omega arith in
    let here : f (first, x) ≡ g (first, x) = subst (λ k. f (k, x) ≡ g (k, x)) e (h 0 (omega arith)) in
    let rest = terms_equal f g (first + 1) xs d (λ i l. let s : first + suc i ≡ first + 1 + i = omega arith in subst (λ k. f (k, get_or xs i d) ≡ g (k, get_or xs i d)) s (h (suc i) (omega arith))) in
    rw (here, rest) refl

sums_equal : {X : Type 0} (f g : ℕ × X → ℕ) (xs : List X) (d : X) → ((i : ℕ) → i < length xs → f (i, get_or xs i d) ≡ g (i, get_or xs i d)) →
    sum_by f (enumerate_from 0 xs) ≡ sum_by g (enumerate_from 0 xs)
sums_equal f g xs d h =
    sum_by-is-total f (enumerate_from 0 xs)
    ∙ terms_equal f g 0 xs d (λ i l. let s : i ≡ 0 + i = omega arith in subst (λ k. f (k, get_or xs i d) ≡ g (k, get_or xs i d)) s (h i l))
    ∙ sym (sum_by-is-total g (enumerate_from 0 xs))

-- `missed_in_all` of the tally's cells is the front's sure cost
pub missed_is_cost : (all : Classes) (front : List ℕ) (tally : FrontTally) → KeepsLimits all → Tracks all front (drop (length front) all.classes) tally →
    missed_in_all all.bounds tally.held tally.later ≡ sure_cost all front
missed_is_cost all front tally limits tracks =
    sums_equal (λ (c, values). missed_in values tally.held tally.later c)
    (λ (c, values). sum_by (λ (v, bound). surely_missed bound (taken_of (has_value c v) all.classes front) (most_given (has_value c v) (later_than front all.classes))) (enumerate_from 0 values))
    all.bounds [] (λ c below. of_category c below)
  where
    no_bound : Bounds
    no_bound = record { lower = 0; upper = 0 }

    of_category : (c : ℕ) → c < length all.bounds → missed_in (get_or all.bounds c []) tally.held tally.later c
        ≡ sum_by (λ (v, bound). surely_missed bound (taken_of (has_value c v) all.classes front) (most_given (has_value c v) (later_than front all.classes))) (enumerate_from 0 (get_or all.bounds c []))
    of_category c below =
        sums_equal (λ (v, bound). surely_missed bound (slice_index tally.held (cell c v)) (slice_index tally.later (cell c v)))
        (λ (v, bound). surely_missed bound (taken_of (has_value c v) all.classes front) (most_given (has_value c v) (later_than front all.classes)))
        (get_or all.bounds c []) no_bound
        (λ v inside. let few = few_places all limits c below in
        let held = tracks.held c v below (omega arith) in let later = tracks.later c v below (omega arith) in
        ap (λ n. surely_missed (get_or (get_or all.bounds c []) v no_bound) n (slice_index tally.later (cell c v))) held
        ∙ ap (surely_missed (get_or (get_or all.bounds c []) v no_bound) (taken_of (has_value c v) all.classes front)) later)

-- the sure cost of a front of all classes is its cost
pub whole_cost : (all : Classes) (front : List ℕ) → length front ≡ length all.classes → sure_cost all front ≡ cost all front
whole_cost all front whole =
    sums_equal (λ (c, values). sum_by (λ (v, bound). surely_missed bound (taken_of (has_value c v) all.classes front) (most_given (has_value c v) (later_than front all.classes))) (enumerate_from 0 values))
    (λ (c, values). sum_by (λ (v, bound). missed_by bound.lower bound.upper (taken_of (has_value c v) all.classes front)) (enumerate_from 0 values))
    all.bounds [] (λ c below. sums_equal (λ (v, bound). surely_missed bound (taken_of (has_value c v) all.classes front) (most_given (has_value c v) (later_than front all.classes)))
    (λ (v, bound). missed_by bound.lower bound.upper (taken_of (has_value c v) all.classes front)) (get_or all.bounds c []) (record { lower = 0; upper = 0 })
    (λ v inside. nothing_more (get_or (get_or all.bounds c []) v (record { lower = 0; upper = 0 })) (taken_of (has_value c v) all.classes front) (most_given (has_value c v) (later_than front all.classes))
    (ap (most_given (has_value c v)) (none_left all.classes (length front) whole) ∙ most_of_none (has_value c v))))
  where
    none_left : (xs : List Class) (n : ℕ) → n ≡ length xs → drop n xs ≡ []
    none_left [] zero e = refl
    none_left [] (suc n) e = absurd (omega arith)
    none_left (x ∷ xs) zero e = absurd (omega arith)
    none_left (x ∷ xs) (suc n) e = none_left xs n (omega arith)

    nothing_more : (bound : Bounds) (number more : ℕ) → more ≡ 0 → surely_missed bound number more ≡ missed_by bound.lower bound.upper number
    nothing_more bound number more z = omega arith
