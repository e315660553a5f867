-- A front as the first counts of a longer list, a child of the front in the same list, and how many members the next class can give.
use Rattle.std.proofs.Common.{◌≡◌, ℕ, zero, suc, ◌+◌, ◌≤◌, ◌<◌, true, false, ltb, List, [], ◌∷◌, ◌++◌, length, take, drop, set, map, get_or, Some, refl, sym, ap, ◌∙◌, arith, subst, length-append}
use Rattle.std.specs.Prelude.{slice_get, slice_index}
use Rattle.std.proofs.Math.Seq.{take-length}
use Rattle.std.proofs.Math.ListN.{get_or-append}
use Rattle.std.proofs.lemmas.Bool.{ltb-true, ltb-false}
use Rattle.std.proofs.lemmas.List.{length-take-le, take-append-drop, take-append-le, get_or-append-add}
use Rattle.std.proofs.lemmas.List.Elements.{All-get_or, All-from_recursion}
use Rattle.std.proofs.lemmas.List.Sums.{get_or-le-sum_by}
use Rattle.std.proofs.lemmas.Option.{slice_get-get_or}
use Rattle.define_searches.specs.Classes.{Class, Classes, KeepsLimits}
use Rattle.define_searches.specs.Fronts.{sizes_of}
use Rattle.define_searches.specs.Front.{AreWithin, CanTake, FrontTally, Tracks, Stands}
use Rattle.define_searches.proofs.WeightLaws.{element_at}

-- if there are at least `depth` counts, the front made of the first `depth` of them has the length `depth`
pub front_length : (depth : ℕ) (counts : List ℕ) (n : ℕ) → length counts ≡ n → depth ≤ n → length (take depth counts) ≡ depth
front_length depth counts n e le = length-take-le depth counts (omega arith)

pub at_front : (all : Classes) (depth : ℕ) (items counts : List ℕ) (tally : FrontTally) → items ≡ counts → length counts ≡ length all.classes → depth ≤ length all.classes →
    Tracks all (take depth counts) (drop (depth + 1) all.classes) tally → Tracks all (take depth items) (drop (length (take depth items) + 1) all.classes) tally
at_front all depth items counts tally e f le tracks =
    let size = front_length depth counts (length all.classes) f le in
    subst (λ xs. Tracks all (take depth xs) (drop (length (take depth xs) + 1) all.classes) tally) (sym e)
    (subst (λ n. Tracks all (take depth counts) (drop (n + 1) all.classes) tally) (sym size) tracks)

pub from_front : (all : Classes) (depth : ℕ) (items counts : List ℕ) (tally : FrontTally) → items ≡ counts → length counts ≡ length all.classes → depth ≤ length all.classes →
    Tracks all (take depth items) (drop (length (take depth items)) all.classes) tally → Tracks all (take depth counts) (drop depth all.classes) tally
from_front all depth items counts tally e f le tracks =
    let size = front_length depth counts (length all.classes) f le in
    subst (λ n. Tracks all (take depth counts) (drop n all.classes) tally) size
    (subst (λ xs. Tracks all (take depth xs) (drop (length (take depth xs)) all.classes) tally) e tracks)

pub from_front_more : (all : Classes) (depth : ℕ) (items counts : List ℕ) (tally : FrontTally) → items ≡ counts → length counts ≡ length all.classes → depth ≤ length all.classes →
    Tracks all (take depth items) (drop (length (take depth items) + 1) all.classes) tally → Tracks all (take depth counts) (drop (depth + 1) all.classes) tally
from_front_more all depth items counts tally e f le tracks =
    let size = front_length depth counts (length all.classes) f le in
    subst (λ n. Tracks all (take depth counts) (drop (n + 1) all.classes) tally) size
    (subst (λ xs. Tracks all (take depth xs) (drop (length (take depth xs) + 1) all.classes) tally) e tracks)

-- ---- a child in its place

pub placed : (depth count : ℕ) (xs : List ℕ) → depth < length xs → take (depth + 1) (set xs depth count) ≡ take depth xs ++ count ∷ []
placed depth count [] lt = absurd (omega arith)
placed zero count (x ∷ xs) lt = refl
placed (suc depth) count (x ∷ xs) lt = let e : suc depth + 1 ≡ suc (depth + 1) = omega arith in rw e (ap (λ (l : List ℕ). x ∷ l) (placed depth count xs (omega arith)))

pub front_of : (depth : ℕ) (xs front : List ℕ) (count : ℕ) → length front ≡ depth → take (depth + 1) xs ≡ front ++ count ∷ [] → take depth xs ≡ front
front_of depth xs front count l e =
    let size : depth ≤ length (take (depth + 1) xs) = omega (arith, ap length e, length-append front (count ∷ []), l) in
    ap (take depth) (sym (take-append-drop (depth + 1) xs)) ∙ (take-append-le depth (take (depth + 1) xs) (drop (depth + 1) xs) size
    ∙ (ap (take depth) e ∙ (take-append-le depth front (count ∷ []) (omega arith) ∙ (ap (λ n. take n front) (sym l) ∙ take-length front))))

pub at_child : (all : Classes) (depth : ℕ) (items front : List ℕ) (count : ℕ) (tally : FrontTally) → length front ≡ depth → take depth items ≡ front → Tracks all (front ++ count ∷ []) (drop (depth + 1) all.classes) tally →
    Tracks all (take depth items ++ count ∷ []) (drop (length (take depth items) + 1) all.classes) tally
at_child all depth items front count tally l e tracks =
    subst (λ f. Tracks all (f ++ count ∷ []) (drop (length f + 1) all.classes) tally) (sym e)
    (subst (λ n. Tracks all (front ++ count ∷ []) (drop (n + 1) all.classes) tally) (sym l) tracks)

pub child_tracks : (all : Classes) (depth count : ℕ) (items counts : List ℕ) (tally : FrontTally) → items ≡ counts → length counts ≡ length all.classes → depth ≤ length all.classes →
    Tracks all (take depth items ++ count ∷ []) (drop (length (take depth items) + 1) all.classes) tally → Tracks all (take depth counts ++ count ∷ []) (drop (depth + 1) all.classes) tally
child_tracks all depth count items counts tally e f le tracks =
    let size = front_length depth counts (length all.classes) f le in
    subst (λ n. Tracks all (take depth counts ++ count ∷ []) (drop (n + 1) all.classes) tally) size
    (subst (λ xs. Tracks all (take depth xs ++ count ∷ []) (drop (length (take depth xs) + 1) all.classes) tally) e tracks)

-- ---- the next class, and how many members it can give

pub place_is : (all : Classes) (depth : ℕ) (class : Class) → Stands all depth class → slice_get all.classes depth ≡ Some class
place_is all depth class stands = slice_get-get_or all.classes depth class stands.below ∙ ap Some (sym stands.is)

pub same_class : (all : Classes) (depth : ℕ) (class other : Class) → Stands all depth class → slice_get all.classes depth ≡ Some other → other ≡ class
same_class all depth class other stands e = let here = place_is all depth class stands in cc

pub class_limits : (all : Classes) (depth : ℕ) (class : Class) → KeepsLimits all → Stands all depth class → (class.least ≤ class.most) × (class.most ≤ length class.members) × (length class.members ≤ 4000)
class_limits all depth class limits stands =
    let here = stands.is in let sum = limits.few_members in
    let low = All-get_or (λ (class : Class). class.least ≤ class.most) all.classes depth class stands.below (All-from_recursion (λ (class : Class). class.least ≤ class.most) all.classes limits.searchable.in_order) in
    let most = All-get_or (λ (class : Class). class.most ≤ length class.members) all.classes depth class stands.below limits.most in
    let one = get_or-le-sum_by (λ (class : Class). length class.members) all.classes depth class stands.below in
    (rw here (omega arith), rw here (omega arith), rw here (omega arith))

pub within_more : (all : Classes) (front : List ℕ) (depth count : ℕ) → length front ≡ depth → depth < length all.classes → CanTake all depth count → AreWithin all front → AreWithin all (front ++ count ∷ [])
within_more all front depth count long below can within t l =
    (elim (ltb t (length front)) as (λ b. ltb t (length front) ≡ b → slice_index (front ++ count ∷ []) t ≤ slice_index (sizes_of all) t) [
      | true ↦ λ e. let lt = ltb-true t (length front) e in earlier lt
      | false ↦ λ e. let ge = ltb-false t (length front) e in last (omega (arith, length-append front (count ∷ [])))
    ]) refl
  where
    nothing_more : t ≡ length front → length front + 0 ≡ t
    nothing_more e = omega arith

    earlier : t < length front → slice_index (front ++ count ∷ []) t ≤ slice_index (sizes_of all) t
    earlier lt = omega (arith, get_or-append front (count ∷ []) 0 t lt, within t lt)

    size_at : (classes : List Class) (i : ℕ) (class : Class) → slice_get classes i ≡ Some class → slice_index (map (λ class. length class.members) classes) i ≡ length class.members
    size_at [] i class e = cc
    size_at (c ∷ classes) zero class e = let is : c ≡ class = cc in ap (λ (c : Class). length c.members) is
    size_at (c ∷ classes) (suc i) class e = size_at classes i class e

    last : t ≡ length front → slice_index (front ++ count ∷ []) t ≤ slice_index (sizes_of all) t
    last e =
        let class = element_at all.classes depth below in
        let place = place_is all depth class.0 (record { below = below; is = class.1 }) in
        let most = can class.0 place in
        let here : slice_index (front ++ count ∷ []) t ≡ count = ap (λ i. get_or (front ++ count ∷ []) i 0) (sym (nothing_more e)) ∙ get_or-append-add front (count ∷ []) 0 0 in
        let size = ap (slice_index (sizes_of all)) (e ∙ long) ∙ size_at all.classes depth class.0 place in
        omega arith
