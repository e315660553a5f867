-- Which children of a front are reachable, and whether the empty front is.
use Rattle.std.proofs.Common.{◌≡◌, ℕ, ◌+◌, ◌-◌, ◌≤◌, ◌<◌, Bool, true, false, ◌&&◌, leb, max, min, List, [], ◌∷◌, ◌++◌, length, drop, Option, Some, None, refl, sym, ap, ◌∙◌, arith, subst}
use Rattle.std.specs.List.{list_all}
use Rattle.std.proofs.lemmas.Bool.{and_from, false≢true, false_from_ne_true, leb-false, leb-true, lt-leb}
use Rattle.std.proofs.Math.Bool.{and-false, and-true}
use Rattle.define_searches.specs.declared.Bounds.{Bounds}
use Rattle.define_searches.specs.Classes.{Class, Classes, HasPlaces, KeepsLimits}
use Rattle.define_searches.specs.Compositions.{is_of_household, takes_one_of, takes_one_a_household}
use Rattle.define_searches.specs.Fronts.{is_reachable, size_reachable, values_reachable}
use Rattle.define_searches.specs.Front.{FrontTally, Tracks, Stands}
use Rattle.define_searches.specs.Tallies.{AllReach}
use Rattle.define_searches.proofs.Liveness.{decided, reach_of_child, size_of_child, values_of_child}
use Rattle.check_search.specs.Tallies.{OneFails}
use Rattle.define_searches.proofs.FirstSearch.{taken_none}

-- ---- a child of a front

values_fail : (all : Classes) (front : List ℕ) (class : Class) (count : ℕ) (tally : FrontTally) → KeepsLimits all → HasPlaces all.bounds class → Stands all (length front) class →
    Tracks all front (drop (length front + 1) all.classes) tally → OneFails all.bounds tally.held tally.later class.values count → values_reachable all (front ++ count ∷ []) ≡ false
values_fail all front class count tally limits places stands tracks (c, bound, below, has, fails) =
    false_from_ne_true (values_reachable all (front ++ count ∷ []))
    (λ yes. false≢true (sym fails ∙ reach_of_child all front class count tally limits places stands tracks yes c bound below has))

-- If the size can still be met with the child, `answer`, which is the test of the class's values, is true exactly if the child's size and
-- values are reachable.
pub child_live : (all : Classes) (front : List ℕ) (class : Class) (count : ℕ) (tally : FrontTally) → KeepsLimits all → HasPlaces all.bounds class → Stands all (length front) class → is_reachable all front ≡ true →
    Tracks all front (drop (length front + 1) all.classes) tally → (leb (tally.taken + count) all.size && leb all.size (tally.taken + count + tally.later_taken)) ≡ true →
    (answer : Bool) → (answer ≡ true → AllReach all.bounds tally.held tally.later class.values count) → (answer ≡ false → OneFails all.bounds tally.held tally.later class.values count) →
    answer ≡ (size_reachable all (front ++ count ∷ []) && values_reachable all (front ++ count ∷ []))
child_live all front class count tally limits places stands live tracks size answer allowed refused =
    let values = decided answer _ _ (values_reachable all (front ++ count ∷ [])) allowed refused
    (values_of_child all front class count tally limits places stands live tracks) (values_fail all front class count tally limits places stands tracks) in
    let reach = size_of_child all front class count tally stands tracks ∙ size in
    values ∙ sym (ap (λ b. b && values_reachable all (front ++ count ∷ [])) reach)

pub child_dead : (all : Classes) (front : List ℕ) (class : Class) (count : ℕ) (tally : FrontTally) → Stands all (length front) class →
    Tracks all front (drop (length front + 1) all.classes) tally → (leb (tally.taken + count) all.size && leb all.size (tally.taken + count + tally.later_taken)) ≡ false →
    (size_reachable all (front ++ count ∷ []) && values_reachable all (front ++ count ∷ [])) ≡ false
child_dead all front class count tally stands tracks size =
    ap (λ b. b && values_reachable all (front ++ count ∷ [])) (size_of_child all front class count tally stands tracks ∙ size)

pub child_values_dead : (all : Classes) (front : List ℕ) (class : Class) (count : ℕ) (tally : FrontTally) → KeepsLimits all → HasPlaces all.bounds class → Stands all (length front) class →
    Tracks all front (drop (length front + 1) all.classes) tally → OneFails all.bounds tally.held tally.later class.values count → is_reachable all (front ++ count ∷ []) ≡ false
child_values_dead all front class count tally limits places stands tracks fails =
    let child = front ++ count ∷ [] in
    ap (λ b. size_reachable all child && b && takes_one_a_household all.classes child) (values_fail all front class count tally limits places stands tracks fails)
    ∙ ap (λ b. b && takes_one_a_household all.classes child) (and-false (size_reachable all child))

pub child_size_dead : (all : Classes) (front : List ℕ) (class : Class) (count : ℕ) (tally : FrontTally) → Stands all (length front) class →
    Tracks all front (drop (length front + 1) all.classes) tally → (leb (tally.taken + count) all.size && leb all.size (tally.taken + count + tally.later_taken)) ≡ false →
    is_reachable all (front ++ count ∷ []) ≡ false
child_size_dead all front class count tally stands tracks size = ap (λ b. b && takes_one_a_household all.classes (front ++ count ∷ [])) (child_dead all front class count tally stands tracks size)

-- If `top` is the greatest count that the size and the upper bounds allow, no child with a greater count is reachable.
pub passed_dead : (all : Classes) (front : List ℕ) (class : Class) (tally : FrontTally) → KeepsLimits all → HasPlaces all.bounds class → Stands all (length front) class → Tracks all front (drop (length front + 1) all.classes) tally →
    (most lack limit top : ℕ) → lack ≡ all.size - tally.taken → limit ≡ min most lack → ((count : ℕ) → top < count → count ≤ limit → OneFails all.bounds tally.held tally.later class.values count) →
    (count : ℕ) → top < count → count ≤ most → is_reachable all (front ++ count ∷ []) ≡ false
passed_dead all front class tally limits places stands tracks most lack limit top lack_is limit_is fails count l u =
    let many : limit < count → is_reachable all (front ++ count ∷ []) ≡ false = λ lt.
    child_size_dead all front class count tally stands tracks (ap (λ b. b && leb all.size (tally.taken + count + tally.later_taken)) (lt-leb (tally.taken + count) all.size (omega arith))) in
    (elim (leb count limit) as (λ b. leb count limit ≡ b → is_reachable all (front ++ count ∷ []) ≡ false) [
      | true ↦ λ t. child_values_dead all front class count tally limits places stands tracks (fails count l (leb-true count limit t))
      | false ↦ λ f. many (leb-false count limit f)
    ]) refl

-- If `low` is the least count that the size and the lower bounds need, no child with a smaller count is reachable.
pub lacking_dead : (all : Classes) (front : List ℕ) (class : Class) (tally : FrontTally) → KeepsLimits all → HasPlaces all.bounds class → Stands all (length front) class → Tracks all front (drop (length front + 1) all.classes) tally →
    (least lack limit low : ℕ) → lack ≡ all.size - (tally.taken + tally.later_taken) → limit ≡ max least lack → ((count : ℕ) → count < low → limit ≤ count → OneFails all.bounds tally.held tally.later class.values count) →
    (count : ℕ) → count < low → least ≤ count → is_reachable all (front ++ count ∷ []) ≡ false
lacking_dead all front class tally limits places stands tracks least lack limit low lack_is limit_is fails count l u =
    let few : count < limit → is_reachable all (front ++ count ∷ []) ≡ false = λ lt.
    child_size_dead all front class count tally stands tracks
    (ap (λ b. leb (tally.taken + count) all.size && b) (lt-leb all.size (tally.taken + count + tally.later_taken) (omega arith)) ∙ and-false (leb (tally.taken + count) all.size)) in
    (elim (leb limit count) as (λ b. leb limit count ≡ b → is_reachable all (front ++ count ∷ []) ≡ false) [
      | true ↦ λ t. child_values_dead all front class count tally limits places stands tracks (fails count l (leb-true limit count t))
      | false ↦ λ f. few (leb-false limit count f)
    ]) refl

pub fails_same : (bounds bounds' : List (List Bounds)) (held held' later later' values values' : List ℕ) (count : ℕ) → bounds ≡ bounds' → held ≡ held' → later ≡ later' → values ≡ values' →
    OneFails bounds held later values count → OneFails bounds' held' later' values' count
fails_same bounds bounds' held held' later later' values values' count e f g h fails =
    subst (λ x. OneFails x held' later' values' count) e (subst (λ x. OneFails bounds x later' values' count) f (subst (λ x. OneFails bounds held x values' count) g (subst (λ x. OneFails bounds held later x count) h fails)))

-- ---- the empty front

none_of : (classes : List Class) (household : Option ℕ) → takes_one_of classes [] household ≡ true
none_of classes None = refl
none_of classes (Some h) = ap (λ n. leb n 1) (taken_none (λ class. is_of_household h class.household) classes)

none_of_each : (classes taking : List Class) → list_all (λ class. takes_one_of taking [] class.household) classes ≡ true
none_of_each [] taking = refl
none_of_each (class ∷ classes) taking = and_from (takes_one_of taking [] class.household) (list_all (λ class. takes_one_of taking [] class.household) classes) (none_of taking class.household) (none_of_each classes taking)

pub begins_reachable : (all : Classes) → is_reachable all [] ≡ (size_reachable all [] && values_reachable all [])
begins_reachable all =
    ap (λ b. size_reachable all [] && values_reachable all [] && b) (none_of_each all.classes all.classes) ∙ and-true (size_reachable all [] && values_reachable all [])
