-- A tally stays right for its front (`Tracks`) if the search begins a class or ends it, and if members of the class are taken or given
-- back.
use Rattle.std.proofs.Common.{◌≡◌, ℕ, ◌+◌, ◌*◌, ◌≤◌, ◌<◌, Bool, true, false, cond, ◌&&◌, List, [], ◌∷◌, ◌++◌, length, sum_by, take, drop, get_or, replicate, refl, sym, ap, ◌∙◌, arith, subst}
use Rattle.std.specs.Prelude.{slice_index, slice_index_or}
use Rattle.std.specs.List.{AllByRecursion}
use Rattle.std.proofs.lemmas.Bool.{eq-eqb, leb-true, and_parts}
use Rattle.std.proofs.lemmas.List.{get_or-replicate, length-replicate, drop_more, take-append-drop, length-take-le}
use Rattle.std.proofs.lemmas.List.Elements.{All-get_or, recursion_from_All}
use Rattle.std.proofs.lemmas.List.Sums.{get_or-le-sum_by, sum_by-take-drop, sum_by-take-le}
use Rattle.define_pools.proofs.Sums.{sum_by-is-total, total}
use Rattle.define_searches.specs.declared.Bounds.{Bounds}
use Rattle.define_searches.specs.Classes.{Class, Classes, HasPlaces, KeepsLimits, volunteer_count}
use Rattle.define_searches.specs.Compositions.{taken_of, has_value, is_of_household, takes_one_a_household}
use Rattle.define_searches.specs.Fronts.{most_given, taken_by, is_reachable, size_reachable, values_reachable}
use Rattle.define_searches.proofs.FirstSearch.{Split, taken_split, taken_none}
use Rattle.define_searches.specs.Tallies.{cell, HaveCells, CanGive, AreAtMost, HasMore, HaveBounds, AllReach, FitCells, EachReaches, SomeFails}
use Rattle.define_searches.specs.Front.{FrontTally, Gives, Tracks, Stands}
use Rattle.define_searches.specs.Homes.{HasMoreAt}

-- ---- a class: its place, its limits and its cells

pub comes_next : (all : Classes) (i : ℕ) (class : Class) → Stands all i class → drop i all.classes ≡ class ∷ drop (i + 1) all.classes
comes_next all i class stands = drop_more all.classes i class stands.below ∙ ap (λ (c : Class). c ∷ drop (i + 1) all.classes) (sym stands.is)

pub most_of_class : (all : Classes) (i : ℕ) (class : Class) → KeepsLimits all → Stands all i class → class.most ≤ 4000
most_of_class all i class limits stands =
    let few = All-get_or (λ (class : Class). class.most ≤ length class.members) all.classes i class stands.below limits.most in
    let one = get_or-le-sum_by (λ (class : Class). length class.members) all.classes i class stands.below in
    let here = stands.is in let sum = limits.few_members in
    rw here (omega arith)

pub places_of_class : (all : Classes) (i : ℕ) (class : Class) → KeepsLimits all → Stands all i class → HasPlaces all.bounds class
places_of_class all i class limits stands =
    subst (HasPlaces all.bounds) (sym stands.is) (All-get_or (HasPlaces all.bounds) all.classes i class stands.below limits.values)

pub few_places : (all : Classes) → KeepsLimits all → (c : ℕ) → c < length all.bounds → length (slice_index_or all.bounds c []) ≤ 50
few_places all limits c below = All-get_or (λ (values : List Bounds). length values ≤ 50) all.bounds c [] below limits.few_values

pub cells_of_class : (all : Classes) (class : Class) (cells : List ℕ) → KeepsLimits all → HasPlaces all.bounds class → length cells ≡ 50 * length all.bounds → HaveCells class.values cells
cells_of_class all class cells limits places size = record {
  places = λ c below. let few = few_places all limits c (omega (arith, places.one_each)) in let within = places.within c (omega (arith, places.one_each)) in omega arith;
  room = omega (arith, places.one_each);
}

pub bounds_of_class : (all : Classes) (class : Class) → HasPlaces all.bounds class → HaveBounds all.bounds class.values
bounds_of_class all class places = record { one_each = places.one_each; within = λ c below. places.within c (omega (arith, places.one_each)) }

-- ---- sums over the classes that pass a test

pub most_more : (p : Class → Bool) (class : Class) (rest : List Class) → most_given p (class ∷ rest) ≡ cond (p class) class.most 0 + most_given p rest
most_more p class rest =
    let f : Class → ℕ = λ class. cond (p class) class.most 0 in sum_by-is-total f (class ∷ rest) ∙ sym (ap (λ n. f class + n) (sum_by-is-total f rest))

pub most_of_none : (p : Class → Bool) → most_given p [] ≡ 0
most_of_none p = sum_by-is-total (λ class. cond (p class) class.most 0) []

most_of_members : (p : Class → Bool) (classes : List Class) → AllByRecursion (λ class. class.most ≤ length class.members) classes → most_given p classes ≤ sum_by (λ class. length class.members) classes
most_of_members p [] h = omega (arith, most_of_none p)
most_of_members p (class ∷ classes) h =
    let rest = most_of_members p classes h.1 in let more = most_more p class classes in let here = h.0 in
    let a = sum_by-is-total (λ (class : Class). length class.members) (class ∷ classes) in let b = sum_by-is-total (λ (class : Class). length class.members) classes in
    (elim (p class) as (λ b. most_given p (class ∷ classes) ≡ cond b class.most 0 + most_given p classes → most_given p (class ∷ classes) ≤ sum_by (λ class. length class.members) (class ∷ classes)) [
      | true ↦ λ e. omega arith
      | false ↦ λ e. omega arith
    ]) more

pub taken_within_all : (p : Class → Bool) (classes : List Class) (counts : List ℕ) → taken_of p classes counts ≤ taken_of (λ class. true) classes counts
taken_within_all p [] counts = omega arith
taken_within_all p (class ∷ classes) [] = omega arith
taken_within_all p (class ∷ classes) (c ∷ counts) =
    let rest = taken_within_all p classes counts in
    elim (p class) as (λ b. cond b c 0 + taken_of p classes counts ≤ c + taken_of (λ class. true) classes counts) [
      | true ↦ omega arith
      | false ↦ omega arith
    ]

-- If a front is reachable, it takes at most 1,000 members of classes that satisfy `p`.
pub few_taken : (all : Classes) (front : List ℕ) (p : Class → Bool) → KeepsLimits all → is_reachable all front ≡ true → taken_of p all.classes front ≤ 1000
few_taken all front p limits live =
    let both = and_parts (size_reachable all front && values_reachable all front) (takes_one_a_household all.classes front) live in
    let parts = and_parts (size_reachable all front) (values_reachable all front) both.0 in
    let low = leb-true (taken_by all front) all.size (and_parts _ _ parts.0).0 in
    let within = taken_within_all p all.classes front in let size = limits.size.1 in omega arith

-- ---- a front and the classes after it

pub split_at : (all : Classes) (front : List ℕ) → length front ≤ length all.classes → Split all (take (length front) all.classes) (drop (length front) all.classes) front
split_at all front few = record { whole = sym (take-append-drop (length front) all.classes); fits = sym (length-take-le (length front) all.classes few) }

-- If `count` members of the next class are added to a front, it takes `count` more members of classes that satisfy `p` if the next class
-- satisfies `p`, else no more.
pub taken_more : (all : Classes) (front : List ℕ) (class : Class) (count : ℕ) → Stands all (length front) class → (p : Class → Bool) →
    taken_of p all.classes (front ++ count ∷ []) ≡ taken_of p all.classes front + cond (p class) count 0
taken_more all front class count stands p =
    let split = split_at all front (omega (arith, stands.below)) in
    let next = comes_next all (length front) class stands in
    let none = taken_none p (drop (length front + 1) all.classes) in
    taken_split all (take (length front) all.classes) (drop (length front) all.classes) front (count ∷ []) split p
    ∙ ap (λ n. taken_of p all.classes front + n) (ap (λ (classes : List Class). taken_of p classes (count ∷ [])) next ∙ omega (arith, none))

-- ---- steps of a tally

-- If the search begins a class, its `most` is subtracted from what the later classes can give. The tally is then right for the front with
-- only the classes after this one still to come.
pub begun : (all : Classes) (front : List ℕ) (class : Class) (rest : List Class) (before after : FrontTally) → HasPlaces all.bounds class → Tracks all front (class ∷ rest) before →
    after.taken ≡ before.taken → after.held ≡ before.held → after.later_taken + class.most ≡ before.later_taken → HasMore class.values class.most after.later before.later →
    after.homes ≡ before.homes → Tracks all front rest after
begun all front class rest before after places tracks e f g more homes = record {
  homes_cells = ap length homes ∙ tracks.homes_cells;
  homes = λ h l. ap (λ cells. slice_index cells h) homes ∙ tracks.homes h l;
  taken = e ∙ tracks.taken;
  later_taken = omega (arith, g, tracks.later_taken, most_more (λ class. true) class rest);
  held_cells = ap length f ∙ tracks.held_cells;
  later_cells = sym more.same ∙ tracks.later_cells;
  held = λ c v a b. ap (λ cells. slice_index cells (cell c v)) f ∙ tracks.held c v a b;
  later = λ c v a b. omega (arith, more.cells c v (omega (arith, places.one_each)) b, tracks.later c v a b, most_more (has_value c v) class rest);
}

-- If the search leaves a class, its `most` is added to what the later classes can give. The tally is then right for the front with this
-- class still to come.
pub ended : (all : Classes) (front : List ℕ) (class : Class) (rest : List Class) (before after : FrontTally) → HasPlaces all.bounds class → Tracks all front rest before →
    after.taken ≡ before.taken → after.held ≡ before.held → after.later_taken ≡ before.later_taken + class.most → HasMore class.values class.most before.later after.later →
    after.homes ≡ before.homes → Tracks all front (class ∷ rest) after
ended all front class rest before after places tracks e f g more homes = record {
  homes_cells = ap length homes ∙ tracks.homes_cells;
  homes = λ h l. ap (λ cells. slice_index cells h) homes ∙ tracks.homes h l;
  taken = e ∙ tracks.taken;
  later_taken = omega (arith, g, tracks.later_taken, most_more (λ class. true) class rest);
  held_cells = ap length f ∙ tracks.held_cells;
  later_cells = more.same ∙ tracks.later_cells;
  held = λ c v a b. ap (λ cells. slice_index cells (cell c v)) f ∙ tracks.held c v a b;
  later = λ c v a b. omega (arith, more.cells c v (omega (arith, places.one_each)) b, tracks.later c v a b, most_more (has_value c v) class rest);
}

-- If `count` members of the class are taken, the tally is right for the child.
pub taken_on : (all : Classes) (front : List ℕ) (class : Class) (count : ℕ) (rest : List Class) (before after : FrontTally) → HasPlaces all.bounds class → Stands all (length front) class → Tracks all front rest before →
    after.taken ≡ before.taken + count → after.later ≡ before.later → after.later_taken ≡ before.later_taken → HasMore class.values count before.held after.held →
    HasMoreAt class.household count before.homes after.homes → Tracks all (front ++ count ∷ []) rest after
taken_on all front class count rest before after places stands tracks e f g more homes = record {
  homes_cells = homes.same ∙ tracks.homes_cells;
  homes = λ h l. omega (arith, homes.each h (omega (arith, tracks.homes_cells)), tracks.homes h l, taken_more all front class count stands (λ class. is_of_household h class.household));
  taken = omega (arith, e, tracks.taken, taken_more all front class count stands (λ class. true));
  later_taken = g ∙ tracks.later_taken;
  held_cells = more.same ∙ tracks.held_cells;
  later_cells = ap length f ∙ tracks.later_cells;
  held = λ c v a b. omega (arith, more.cells c v (omega (arith, places.one_each)) b, tracks.held c v a b, taken_more all front class count stands (has_value c v));
  later = λ c v a b. ap (λ cells. slice_index cells (cell c v)) f ∙ tracks.later c v a b;
}

-- If `count` members of the class are given back, the tally is right for the front again.
pub given_back : (all : Classes) (front : List ℕ) (class : Class) (count : ℕ) (rest : List Class) (before after : FrontTally) → HasPlaces all.bounds class → Stands all (length front) class → Tracks all (front ++ count ∷ []) rest before →
    after.taken + count ≡ before.taken → after.later ≡ before.later → after.later_taken ≡ before.later_taken → HasMore class.values count after.held before.held →
    HasMoreAt class.household count after.homes before.homes → Tracks all front rest after
given_back all front class count rest before after places stands tracks e f g more homes = record {
  homes_cells = sym homes.same ∙ tracks.homes_cells;
  homes = λ h l. omega (arith, homes.each h (omega (arith, homes.same, tracks.homes_cells)), tracks.homes h l, taken_more all front class count stands (λ class. is_of_household h class.household));
  taken = omega (arith, e, tracks.taken, taken_more all front class count stands (λ class. true));
  later_taken = g ∙ tracks.later_taken;
  held_cells = sym more.same ∙ tracks.held_cells;
  later_cells = ap length f ∙ tracks.later_cells;
  held = λ c v a b. omega (arith, more.cells c v (omega (arith, places.one_each)) b, tracks.held c v a b, taken_more all front class count stands (has_value c v));
  later = λ c v a b. ap (λ cells. slice_index cells (cell c v)) f ∙ tracks.later c v a b;
}

-- ---- what the calls on the tallies require

pub most_small : (all : Classes) (i : ℕ) (p : Class → Bool) → KeepsLimits all → most_given p (drop i all.classes) ≤ 4000
most_small all i p limits =
    let parts = sum_by-take-drop (λ class. cond (p class) class.most 0) all.classes i in
    let whole = most_of_members p all.classes (recursion_from_All (λ (class : Class). class.most ≤ length class.members) all.classes limits.most) in
    omega (arith, limits.few_members)

-- The first `i` classes together give at most 4,000 members.
pub first_small : (all : Classes) (i : ℕ) (p : Class → Bool) → KeepsLimits all → most_given p (take i all.classes) ≤ 4000
first_small all i p limits =
    let part = sum_by-take-le (λ class. cond (p class) class.most 0) all.classes i in
    let whole = most_of_members p all.classes (recursion_from_All (λ (class : Class). class.most ≤ length class.members) all.classes limits.most) in
    omega (arith, limits.few_members)

pub few_given : (all : Classes) (i n total : ℕ) (cells : List ℕ) → KeepsLimits all → n ≡ length all.bounds → Gives all (take i all.classes) total cells → AreAtMost 1000000 n cells
few_given all i n total cells limits e gives = λ c v a b. omega (arith, gives.each c v (omega arith) b, first_small all i (has_value c v) limits)

-- In a list of zeros each cell is at most 0.
pub zero_cells : (n categories : ℕ) (cells : List ℕ) → cells ≡ replicate n 0 → length cells ≡ 50 * categories → AreAtMost 0 categories cells
zero_cells n categories cells e room = λ c v a b.
    let size : length cells ≡ n = ap length e ∙ length-replicate n 0 in
    let below : cell c v < n = omega (arith, size, room) in
    let is : slice_index cells (cell c v) ≡ 0 = ap (λ cells. slice_index cells (cell c v)) e ∙ get_or-replicate n (cell c v) 0 0 below in
    omega arith

-- A tally in which no member is taken and all classes are still to come is right for the empty front.
pub starts : (all : Classes) (cells : List ℕ) (tally : FrontTally) → tally.taken ≡ 0 → AreAtMost 0 (length all.bounds) tally.held → length tally.held ≡ 50 * length all.bounds →
    tally.later ≡ cells → Gives all all.classes tally.later_taken cells → (n : ℕ) → n ≡ volunteer_count all → tally.homes ≡ replicate n 0 → Tracks all [] all.classes tally
starts all cells tally e none room f gives n count homes = record {
  homes_cells = ap length homes ∙ length-replicate n 0 ∙ count;
  homes = λ h l. ap (λ cells. slice_index cells h) homes ∙ get_or-replicate n h 0 0 (omega arith) ∙ sym (taken_none (λ class. is_of_household h class.household) all.classes);
  taken = e ∙ sym (taken_none (λ class. true) all.classes);
  later_taken = gives.in_all;
  held_cells = room;
  later_cells = ap length f ∙ gives.room;
  held = λ c v a b. omega (arith, none c v a b, taken_none (has_value c v) all.classes);
  later = λ c v a b. ap (λ cells. slice_index cells (cell c v)) f ∙ gives.each c v a b;
}

pub few_later : (all : Classes) (front : List ℕ) (i n : ℕ) (tally : FrontTally) → KeepsLimits all → n ≡ length all.bounds → Tracks all front (drop i all.classes) tally → AreAtMost 1000000 n tally.later
few_later all front i n tally limits e tracks = λ c v a b. omega (arith, tracks.later c v (omega arith) b, most_small all i (has_value c v) limits)

pub small_held : (all : Classes) (front : List ℕ) (rest : List Class) (n : ℕ) (tally : FrontTally) → n ≡ length all.bounds → taken_by all front ≤ 4000 → Tracks all front rest tally → AreAtMost 1000000 n tally.held
small_held all front rest n tally e small tracks = λ c v a b. omega (arith, tracks.held c v (omega arith) b, taken_within_all (has_value c v) all.classes front)

pub few_held : (all : Classes) (front : List ℕ) (rest : List Class) (n : ℕ) (tally : FrontTally) → KeepsLimits all → n ≡ length all.bounds → is_reachable all front ≡ true → Tracks all front rest tally → AreAtMost 1000000 n tally.held
few_held all front rest n tally limits e live tracks = small_held all front rest n tally e (omega (arith, few_taken all front (λ class. true) limits live)) tracks

pub own_value : (class : Class) (c : ℕ) → has_value c (slice_index class.values c) class ≡ true
own_value class c = eq-eqb (slice_index class.values c) (slice_index class.values c) refl

-- If a class is still to come, its `most` is counted in the cells of its values, so it can be subtracted.
pub can_leave : (all : Classes) (front : List ℕ) (class : Class) (rest : List Class) (tally : FrontTally) → KeepsLimits all → HasPlaces all.bounds class → Tracks all front (class ∷ rest) tally → CanGive class.values tally.later class.most
can_leave all front class rest tally limits places tracks c below =
    let v = slice_index class.values c in
    let few = few_places all limits c (omega (arith, places.one_each)) in
    let within = places.within c (omega (arith, places.one_each)) in
    let own = own_value class c in
    let more : most_given (has_value c v) (class ∷ rest) ≡ cond true class.most 0 + most_given (has_value c v) rest = most_more (has_value c v) class rest ∙ ap (λ b. cond b class.most 0 + most_given (has_value c v) rest) own in
    omega (arith, tracks.later c v (omega (arith, places.one_each)) (omega arith))

-- If a child takes `count` members of a class, they are counted in the cells of its values, so they can be given back.
pub can_give_back : (all : Classes) (front : List ℕ) (class : Class) (count : ℕ) (rest : List Class) (tally : FrontTally) → KeepsLimits all → HasPlaces all.bounds class → Stands all (length front) class →
    Tracks all (front ++ count ∷ []) rest tally → CanGive class.values tally.held count
can_give_back all front class count rest tally limits places stands tracks c below =
    let v = slice_index class.values c in
    let few = few_places all limits c (omega (arith, places.one_each)) in
    let within = places.within c (omega (arith, places.one_each)) in
    let own = own_value class c in
    let more : taken_of (has_value c v) all.classes (front ++ count ∷ []) ≡ taken_of (has_value c v) all.classes front + cond true count 0 =
    taken_more all front class count stands (has_value c v) ∙ ap (λ b. taken_of (has_value c v) all.classes front + cond b count 0) own in
    omega (arith, tracks.held c v (omega (arith, places.one_each)) (omega arith))

-- ---- what holds of a value holds of an equal one, as the contracts of the code need it

pub stands_there : (all : Classes) (i : ℕ) (classes : List Class) (class : Class) → i < length all.classes → classes ≡ all.classes → class ≡ get_or classes i class → Stands all i class
stands_there all i classes class below e is = record { below = below; is = is ∙ ap (λ cs. get_or cs i class) e }

pub more_same : (values values' : List ℕ) (count count' : ℕ) (a a' b b' : List ℕ) → values ≡ values' → count ≡ count' → a ≡ a' → b ≡ b' → HasMore values count a b → HasMore values' count' a' b'
more_same values values' count count' a a' b b' e f g h more =
    subst (λ x. HasMore x count' a' b') e (subst (λ x. HasMore values x a' b') f (subst (λ x. HasMore values count x b') g (subst (λ x. HasMore values count a x) h more)))

pub cells_same : (values values' cells cells' : List ℕ) → values ≡ values' → cells ≡ cells' → HaveCells values' cells' → HaveCells values cells
cells_same values values' cells cells' e f have = subst (λ x. HaveCells x cells) (sym e) (subst (HaveCells values') (sym f) have)

pub give_same : (values values' cells cells' : List ℕ) (count count' : ℕ) → values ≡ values' → cells ≡ cells' → count ≡ count' → CanGive values' cells' count' → CanGive values cells count
give_same values values' cells cells' count count' e f g give =
    subst (λ x. CanGive x cells count) (sym e) (subst (λ x. CanGive values' x count) (sym f) (subst (CanGive values' cells') (sym g) give))

pub small_same : (n n' : ℕ) (cells cells' : List ℕ) → n ≡ n' → cells ≡ cells' → AreAtMost 1000000 n' cells' → AreAtMost 1000000 n cells
small_same n n' cells cells' e f small = subst (λ x. AreAtMost 1000000 x cells) (sym e) (subst (AreAtMost 1000000 n') (sym f) small)

pub bounds_same : (bounds bounds' : List (List Bounds)) (values values' : List ℕ) → bounds ≡ bounds' → values ≡ values' → HaveBounds bounds' values' → HaveBounds bounds values
bounds_same bounds bounds' values values' e f have = subst (λ x. HaveBounds x values) (sym e) (subst (HaveBounds bounds') (sym f) have)

pub reach_same : (bounds bounds' : List (List Bounds)) (held held' later later' values values' : List ℕ) (count : ℕ) → bounds ≡ bounds' → held ≡ held' → later ≡ later' → values ≡ values' →
    AllReach bounds held later values count → AllReach bounds' held' later' values' count
reach_same bounds bounds' held held' later later' values values' count e f g h reach =
    subst (λ x. AllReach x held' later' values' count) e (subst (λ x. AllReach bounds x later' values' count) f (subst (λ x. AllReach bounds held x values' count) g (subst (λ x. AllReach bounds held later x count) h reach)))

pub each_same : (bounds bounds' : List (List Bounds)) (held held' later later' : List ℕ) → bounds ≡ bounds' → held ≡ held' → later ≡ later' → EachReaches bounds held later → EachReaches bounds' held' later'
each_same bounds bounds' held held' later later' e f g reach =
    subst (λ x. EachReaches x held' later') e (subst (λ x. EachReaches bounds x later') f (subst (λ x. EachReaches bounds held x) g reach))

pub some_same : (bounds bounds' : List (List Bounds)) (held held' later later' : List ℕ) → bounds ≡ bounds' → held ≡ held' → later ≡ later' → SomeFails bounds held later → SomeFails bounds' held' later'
some_same bounds bounds' held held' later later' e f g fails =
    subst (λ x. SomeFails x held' later') e (subst (λ x. SomeFails bounds x later') f (subst (λ x. SomeFails bounds held x) g fails))

pub fit_same : (bounds bounds' : List (List Bounds)) (cells cells' : List ℕ) → bounds ≡ bounds' → cells ≡ cells' → FitCells bounds' cells' → FitCells bounds cells
fit_same bounds bounds' cells cells' e f fit = subst (λ x. FitCells x cells) (sym e) (subst (FitCells bounds') (sym f) fit)

pub fit_cells : (all : Classes) (cells : List ℕ) → KeepsLimits all → length cells ≡ 50 * length all.bounds → FitCells all.bounds cells
fit_cells all cells limits e = record { few = λ c below. few_places all limits c below; room = omega arith }

-- If a tally is right for a front and all classes after it, it is right for the front, the next class and the classes after this class.
pub with_next : (all : Classes) (front : List ℕ) (class : Class) (tally : FrontTally) → Stands all (length front) class → Tracks all front (drop (length front) all.classes) tally → Tracks all front (class ∷ drop (length front + 1) all.classes) tally
with_next all front class tally stands tracks = subst (λ rest. Tracks all front rest tally) (comes_next all (length front) class stands) tracks

pub from_next : (all : Classes) (front : List ℕ) (class : Class) (tally : FrontTally) → Stands all (length front) class → Tracks all front (class ∷ drop (length front + 1) all.classes) tally → Tracks all front (drop (length front) all.classes) tally
from_next all front class tally stands tracks = subst (λ rest. Tracks all front rest tally) (sym (comes_next all (length front) class stands)) tracks
