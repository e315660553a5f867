-- How a tally shows whether fronts are reachable.
use Rattle.std.proofs.Common.{◌≡◌, ℕ, zero, suc, ◌+◌, ◌<◌, Bool, true, false, cond, ◌&&◌, leb, List, [], ◌∷◌, ◌++◌, length, drop, Some, refl, sym, ap, ◌∙◌, arith, subst, length-append}
use Rattle.std.specs.Prelude.{slice_get, slice_index, slice_index_or}
use Rattle.std.specs.List.{list_all, enumerate_from}
use Rattle.std.proofs.lemmas.Bool.{and_parts, and_from, eqb-true, false≢true, false_from_ne_true}
use Rattle.std.proofs.lemmas.Option.{get_or_from_slice_get, slice_get-get_or, slice_get_within}
use Rattle.define_searches.specs.declared.Bounds.{Bounds}
use Rattle.define_searches.specs.Classes.{Class, Classes, HasPlaces, KeepsLimits}
use Rattle.define_searches.specs.Compositions.{taken_of, has_value, takes_one_a_household}
use Rattle.define_searches.specs.Fronts.{most_given, is_reachable, size_reachable, value_reachable, values_reachable, later_than}
use Rattle.define_searches.specs.Tallies.{cell, HasBound, reaches, AllReach, EachReaches, SomeFails}
use Rattle.define_searches.specs.Front.{FrontTally, Tracks, Stands}
use Rattle.define_searches.proofs.Tracking.{comes_next, few_places, most_more, taken_more, own_value}

-- ---- a test of each element with its place

each_place : {X : Type 0} (p : ℕ × X → Bool) (n : ℕ) (xs : List X) → ((i k : ℕ) (x : X) → k ≡ n + i → slice_get xs i ≡ Some x → p (k, x) ≡ true) → list_all p (enumerate_from n xs) ≡ true
each_place p n [] f = refl
each_place p n (x ∷ xs) f =
    and_from (p (n, x)) (list_all p (enumerate_from (n + 1) xs)) (f 0 n x (omega arith) refl) (each_place p (n + 1) xs (λ i k y e at. f (suc i) k y (omega arith) at))

at_place : {X : Type 0} (p : ℕ × X → Bool) (n : ℕ) (xs : List X) → list_all p (enumerate_from n xs) ≡ true → (i k : ℕ) (x : X) → k ≡ n + i → slice_get xs i ≡ Some x → p (k, x) ≡ true
at_place p n [] h i k x e at = cc
at_place p n (y ∷ ys) h zero k x e at =
    let parts = and_parts (p (n, y)) (list_all p (enumerate_from (n + 1) ys)) h in
    let same : k ≡ n = omega arith in let is : y ≡ x = cc in
    subst (λ z. p (k, z) ≡ true) is (subst (λ z. p (z, y) ≡ true) (sym same) parts.0)
at_place p n (y ∷ ys) h (suc i) k x e at =
    let parts = and_parts (p (n, y)) (list_all p (enumerate_from (n + 1) ys)) h in at_place p (n + 1) ys parts.1 i k x (omega arith) at

values_from : (all : Classes) (front : List ℕ) → ((c v : ℕ) (bound : Bounds) → c < length all.bounds → HasBound all.bounds c v bound → value_reachable all front c (v, bound) ≡ true) → values_reachable all front ≡ true
values_from all front f =
    each_place (λ (c, values). list_all (value_reachable all front c) (enumerate_from 0 values)) 0 all.bounds
    (λ c k values e at. each_place (value_reachable all front k) 0 values
    (λ v j bound e2 at2.
    let same : c ≡ k = omega arith in let place : v ≡ j = omega arith in
    subst (λ z. value_reachable all front z (j, bound) ≡ true) same (subst (λ z. value_reachable all front c (z, bound) ≡ true) place
    (f c v bound (slice_get_within all.bounds c values at) (ap (λ vs. slice_get vs v) (get_or_from_slice_get all.bounds c values [] at) ∙ at2)))))

values_at : (all : Classes) (front : List ℕ) → values_reachable all front ≡ true → (c v : ℕ) (bound : Bounds) → c < length all.bounds → HasBound all.bounds c v bound → value_reachable all front c (v, bound) ≡ true
values_at all front h c v bound below has =
    at_place (value_reachable all front c) 0 (slice_index_or all.bounds c [])
    (at_place (λ (c, values). list_all (value_reachable all front c) (enumerate_from 0 values)) 0 all.bounds h c c (slice_index_or all.bounds c []) (omega arith) (slice_get-get_or all.bounds c [] below))
    v v bound (omega arith) has

value_in_cell : (all : Classes) → KeepsLimits all → (c v : ℕ) (bound : Bounds) → c < length all.bounds → HasBound all.bounds c v bound → v < 50
value_in_cell all limits c v bound below has =
    let few = few_places all limits c below in let within = slice_get_within (slice_index_or all.bounds c []) v bound has in omega arith

-- ---- a child of a live front

later_of_child : (all : Classes) (front : List ℕ) (count : ℕ) → later_than (front ++ count ∷ []) all.classes ≡ drop (length front + 1) all.classes
later_of_child all front count = ap (λ n. drop n all.classes) (length-append front (count ∷ []))

reach_equal : (lower upper a a' m m' : ℕ) → a ≡ a' → m ≡ m' → (leb a upper && leb lower (a + m)) ≡ (leb a' upper && leb lower (a' + m'))
reach_equal lower upper a a' m m' e f = rw (e, f) refl

-- For a value of the class, the tally with `count` more members shows whether the child can meet the bounds.
own_reach : (all : Classes) (front : List ℕ) (class : Class) (count : ℕ) (tally : FrontTally) → Stands all (length front) class → Tracks all front (drop (length front + 1) all.classes) tally →
    (c v : ℕ) (bound : Bounds) → c < length all.bounds → v < 50 → has_value c v class ≡ true →
    value_reachable all (front ++ count ∷ []) c (v, bound) ≡ reaches bound tally.held tally.later count c v
own_reach all front class count tally stands tracks c v bound below within has =
    let taken : taken_of (has_value c v) all.classes (front ++ count ∷ []) ≡ taken_of (has_value c v) all.classes front + cond true count 0 =
    taken_more all front class count stands (has_value c v) ∙ ap (λ b. taken_of (has_value c v) all.classes front + cond b count 0) has in
    let held = tracks.held c v below within in
    let later : most_given (has_value c v) (later_than (front ++ count ∷ []) all.classes) ≡ slice_index tally.later (cell c v) =
    ap (most_given (has_value c v)) (later_of_child all front count) ∙ sym (tracks.later c v below within) in
    reach_equal bound.lower bound.upper _ _ _ _ (omega (arith, taken, held)) later

-- for a value that the class doesn't have, the child can meet the bounds exactly if the front can
other_reach : (all : Classes) (front : List ℕ) (class : Class) (count : ℕ) → Stands all (length front) class →
    (c v : ℕ) (bound : Bounds) → has_value c v class ≡ false → value_reachable all (front ++ count ∷ []) c (v, bound) ≡ value_reachable all front c (v, bound)
other_reach all front class count stands c v bound has =
    let taken : taken_of (has_value c v) all.classes (front ++ count ∷ []) ≡ taken_of (has_value c v) all.classes front + cond false count 0 =
    taken_more all front class count stands (has_value c v) ∙ ap (λ b. taken_of (has_value c v) all.classes front + cond b count 0) has in
    let next : most_given (has_value c v) (drop (length front) all.classes) ≡ cond false class.most 0 + most_given (has_value c v) (drop (length front + 1) all.classes) =
    ap (most_given (has_value c v)) (comes_next all (length front) class stands)
    ∙ (most_more (has_value c v) class (drop (length front + 1) all.classes) ∙ ap (λ b. cond b class.most 0 + most_given (has_value c v) (drop (length front + 1) all.classes)) has) in
    let later = ap (most_given (has_value c v)) (later_of_child all front count) in
    reach_equal bound.lower bound.upper _ _ _ _ (omega (arith, taken)) (omega (arith, next, later))

pub values_of_child : (all : Classes) (front : List ℕ) (class : Class) (count : ℕ) (tally : FrontTally) → KeepsLimits all → HasPlaces all.bounds class → Stands all (length front) class → is_reachable all front ≡ true →
    Tracks all front (drop (length front + 1) all.classes) tally → AllReach all.bounds tally.held tally.later class.values count → values_reachable all (front ++ count ∷ []) ≡ true
values_of_child all front class count tally limits places stands live tracks reach =
    let both = and_parts (size_reachable all front && values_reachable all front) (takes_one_a_household all.classes front) live in
    let parent = (and_parts (size_reachable all front) (values_reachable all front) both.0).1 in
    values_from all (front ++ count ∷ []) (λ c v bound below has.
    let within = value_in_cell all limits c v bound below has in
    (elim (has_value c v class) as (λ b. has_value c v class ≡ b → value_reachable all (front ++ count ∷ []) c (v, bound) ≡ true) [
      | true ↦ λ own. let is = eqb-true (slice_index class.values c) v own in
          own_reach all front class count tally stands tracks c v bound below within own
          ∙ subst (λ w. reaches bound tally.held tally.later count c w ≡ true) is (reach c bound (omega (arith, places.one_each)) (subst (λ w. HasBound all.bounds c w bound) (sym is) has))
      | false ↦ λ other. other_reach all front class count stands c v bound other ∙ values_at all front parent c v bound below has
    ]) refl)

pub reach_of_child : (all : Classes) (front : List ℕ) (class : Class) (count : ℕ) (tally : FrontTally) → KeepsLimits all → HasPlaces all.bounds class → Stands all (length front) class →
    Tracks all front (drop (length front + 1) all.classes) tally → values_reachable all (front ++ count ∷ []) ≡ true → AllReach all.bounds tally.held tally.later class.values count
reach_of_child all front class count tally limits places stands tracks all_reach = λ c bound below has.
    let v = slice_index class.values c in
    let lt : c < length all.bounds = omega (arith, places.one_each) in
    sym (own_reach all front class count tally stands tracks c v bound lt (value_in_cell all limits c v bound lt has) (own_value class c)) ∙ values_at all (front ++ count ∷ []) all_reach c v bound lt has

pub size_of_child : (all : Classes) (front : List ℕ) (class : Class) (count : ℕ) (tally : FrontTally) → Stands all (length front) class → Tracks all front (drop (length front + 1) all.classes) tally →
    size_reachable all (front ++ count ∷ []) ≡ (leb (tally.taken + count) all.size && leb all.size (tally.taken + count + tally.later_taken))
size_of_child all front class count tally stands tracks =
    let taken = taken_more all front class count stands (λ class. true) in
    let later : most_given (λ class. true) (later_than (front ++ count ∷ []) all.classes) ≡ tally.later_taken = ap (most_given (λ class. true)) (later_of_child all front count) ∙ sym tracks.later_taken in
    reach_equal all.size all.size _ _ _ _ (omega (arith, taken, tracks.taken)) later

pub decided : (b : Bool) (A B : Type 0) (s : Bool) → (b ≡ true → A) → (b ≡ false → B) → (A → s ≡ true) → (B → s ≡ false) → b ≡ s
decided true A B s f g h k = sym (h (f refl))
decided false A B s f g h k = sym (k (g refl))

-- ---- whether size and values are within reach of a front

front_reach : (all : Classes) (front : List ℕ) (tally : FrontTally) → Tracks all front (drop (length front) all.classes) tally → (c v : ℕ) (bound : Bounds) → c < length all.bounds → v < 50 →
    value_reachable all front c (v, bound) ≡ reaches bound tally.held tally.later 0 c v
front_reach all front tally tracks c v bound below within =
    reach_equal bound.lower bound.upper _ _ _ _ (omega (arith, tracks.held c v below within)) (sym (tracks.later c v below within))

size_of_front : (all : Classes) (front : List ℕ) (tally : FrontTally) → Tracks all front (drop (length front) all.classes) tally →
    size_reachable all front ≡ (leb tally.taken all.size && leb all.size (tally.taken + tally.later_taken))
size_of_front all front tally tracks = reach_equal all.size all.size _ _ _ _ (omega (arith, tracks.taken)) (sym tracks.later_taken)

pub front_live : (all : Classes) (front : List ℕ) (tally : FrontTally) → KeepsLimits all → Tracks all front (drop (length front) all.classes) tally →
    (leb tally.taken all.size && leb all.size (tally.taken + tally.later_taken)) ≡ true →
    (answer : Bool) → (answer ≡ true → EachReaches all.bounds tally.held tally.later) → (answer ≡ false → SomeFails all.bounds tally.held tally.later) →
    answer ≡ (size_reachable all front && values_reachable all front)
front_live all front tally limits tracks size answer allowed refused =
    let values = decided answer _ _ (values_reachable all front) allowed refused
    (λ reach. values_from all front (λ c v bound below has. front_reach all front tally tracks c v bound below (value_in_cell all limits c v bound below has) ∙ reach c v bound below has))
    (λ (c, v, bound, below, has, fails). false_from_ne_true (values_reachable all front)
    (λ yes. false≢true (sym fails ∙ (sym (front_reach all front tally tracks c v bound below (value_in_cell all limits c v bound below has)) ∙ values_at all front yes c v bound below has)))) in
    values ∙ sym (ap (λ b. b && values_reachable all front) (size_of_front all front tally tracks ∙ size))

pub front_dead : (all : Classes) (front : List ℕ) (tally : FrontTally) → Tracks all front (drop (length front) all.classes) tally →
    (leb tally.taken all.size && leb all.size (tally.taken + tally.later_taken)) ≡ false → (size_reachable all front && values_reachable all front) ≡ false
front_dead all front tally tracks size = ap (λ b. b && values_reachable all front) (size_of_front all front tally tracks ∙ size)
