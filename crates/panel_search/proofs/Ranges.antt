-- The counts of the next class that make reachable children of a front are one range.
use Rattle.std.proofs.Common.{◌≡◌, ℕ, zero, suc, ◌+◌, ◌-◌, ◌≤◌, ◌<◌, max, min, Bool, true, false, cond, eqb, leb, ltb, ◌&&◌, List, [], ◌∷◌, ◌++◌, length, drop, filter, Option, Some, refl, sym, ap, ◌∙◌, arith, subst}
use Rattle.std.specs.Prelude.{slice_get, slice_index, slice_index_or}
use Rattle.std.specs.List.{All}
use Rattle.std.proofs.lemmas.Bool.{and_parts, and_from, eqb-true, eqb-false, false≢true, leb-true, leb-false, le-leb, ltb-true, ltb-false}
use Rattle.std.proofs.lemmas.List.Elements.{All-get_or}
use Rattle.std.proofs.lemmas.Option.{get_or_from_slice_get, slice_get_within}
use Rattle.define_searches.specs.declared.Bounds.{Bounds}
use Rattle.define_searches.specs.Classes.{Class, Classes, HasPlaces, KeepsLimits}
use Rattle.define_searches.specs.Compositions.{counts_down, counts_of, takes_one_a_household}
use Rattle.define_searches.specs.Fronts.{is_reachable, size_reachable, values_reachable}
use Rattle.panel_search.specs.Front.{Tracks}
use Rattle.define_searches.specs.Front.{Stands}
use Rattle.define_searches.specs.Homes.{has_room}
use Rattle.panel_search.specs.Steps.{counts_below}
use Rattle.define_searches.specs.Tallies.{AllReach, HasBound, reaches}
use Rattle.panel_search.specs.Tallies.{AreSmallBounds}
use Rattle.panel_search.specs.declared.tally.Tally.{Tally}
use Rattle.define_searches.proofs.HouseholdTallies.{child_households}
use Rattle.define_searches.proofs.Liveness.{size_of_child, values_of_child, reach_of_child}

-- ---- the counts that keep the values within reach

-- with `count` more members, the value in each of the first `done` categories can still meet its bounds
abbrev pub ReachTo : List (List Bounds) → List ℕ → List ℕ → List ℕ → ℕ → ℕ → Type 0
ReachTo bounds held later values done count =
    (c : ℕ) (bound : Bounds) → c < done → HasBound bounds c (slice_index values c) bound → reaches bound held later count c (slice_index values c) ≡ true

-- of the counts in `from..until`, exactly those in `low..end` keep the values of the first `done` categories within reach
pub record IsRange (bounds : List (List Bounds)) (held later values : List ℕ) (from until done low end : ℕ) : Type 0 where
  pub inside : (count : ℕ) → low ≤ count → count < end → (from ≤ count) × (count < until) × ReachTo bounds held later values done count
  pub outside : (count : ℕ) → from ≤ count → count < until → ReachTo bounds held later values done count → (low ≤ count) × (count < end)

-- if `low..end` is the range for `done` categories, and `low'..end'` are its counts that keep the value of the next category within reach,
-- then `low'..end'` is the range for `done + 1` categories
pub range_next : (bounds : List (List Bounds)) (held later values : List ℕ) (from until done low end low' end' : ℕ) (bound : Bounds) → IsRange bounds held later values from until done low end →
    HasBound bounds done (slice_index values done) bound →
    ((count : ℕ) → low' ≤ count → count < end' → (low ≤ count) × (count < end) × (reaches bound held later count done (slice_index values done) ≡ true)) →
    ((count : ℕ) → low ≤ count → count < end → reaches bound held later count done (slice_index values done) ≡ true → (low' ≤ count) × (count < end')) →
    IsRange bounds held later values from until (done + 1) low' end'
range_next bounds held later values from until done low end low' end' bound range has inside outside = record {
  inside = λ count l m.
      let here = inside count l m in
      let earlier = range.inside count here.0 here.1 in
      (earlier.0, earlier.1, λ c other below at. by count c other below at here.2 earlier.2);
  outside = λ count l m reach.
      let earlier = range.outside count l m (λ c other below at. reach c other (omega arith) at) in
      outside count earlier.0 earlier.1 (reach done bound (omega arith) has);
}
  where
    same : (x y : Bounds) (o : Option Bounds) → o ≡ Some x → o ≡ Some y → x ≡ y
    same x y o e f = cc

    by : (count c : ℕ) (other : Bounds) → c < done + 1 → HasBound bounds c (slice_index values c) other → reaches bound held later count done (slice_index values done) ≡ true → ReachTo bounds held later values done count →
        reaches other held later count c (slice_index values c) ≡ true
    by count c other below at here earlier =
        (elim (eqb c done) as (λ b. eqb c done ≡ b → reaches other held later count c (slice_index values c) ≡ true) [
          | true ↦ λ t.
              let is = eqb-true c done t in
              let at_done : HasBound bounds done (slice_index values done) other = subst (λ c. HasBound bounds c (slice_index values c) other) is at in
              let one = same bound other (slice_get (slice_index_or bounds done []) (slice_index values done)) has at_done in
              subst (λ c. reaches other held later count c (slice_index values c) ≡ true) (sym is) (subst (λ (bound : Bounds). reaches bound held later count done (slice_index values done) ≡ true) one here)
          | false ↦ λ f. let apart = eqb-false c done f in earlier c other (omega (arith, below, apart)) at
        ]) refl

-- of the counts in `low..end`, exactly those in `low'..end'` keep a value within reach, if the front has `held` of it and later classes
-- give at most `later`
pub reach_between : (lower upper held later low end low' end' : ℕ) → low' ≡ max low (lower - (held + later)) → end' ≡ min end (upper + 1 - held) → (count : ℕ) →
    (low' ≤ count → count < end' → (low ≤ count) × (count < end) × ((leb (held + count) upper && leb lower (held + count + later)) ≡ true))
    × (low ≤ count → count < end → (leb (held + count) upper && leb lower (held + count + later)) ≡ true → (low' ≤ count) × (count < end'))
reach_between lower upper held later low end low' end' e f count = (
  λ l m. (omega arith, omega arith, and_from (leb (held + count) upper) (leb lower (held + count + later)) (le-leb (held + count) upper (omega arith)) (le-leb lower (held + count + later) (omega arith))),
  λ l m reach.
      let parts = and_parts (leb (held + count) upper) (leb lower (held + count + later)) reach in
      let a = leb-true (held + count) upper parts.0 in let b = leb-true lower (held + count + later) parts.1 in (omega arith, omega arith),
)

pub small_bounds : (all : Classes) → KeepsLimits all → AreSmallBounds all.bounds
small_bounds all limits c v bound below has =
    let values = slice_index_or all.bounds c [] in
    let each : All (λ (bound : Bounds). (bound.lower ≤ bound.upper) × (bound.upper ≤ 999)) values =
    All-get_or (λ (values : List Bounds). All (λ (bound : Bounds). (bound.lower ≤ bound.upper) × (bound.upper ≤ 999)) values) all.bounds c [] below limits.bounds in
    let within = slice_get_within values v bound has in
    let one = All-get_or (λ (bound : Bounds). (bound.lower ≤ bound.upper) × (bound.upper ≤ 999)) values v bound within each in
    let is = get_or_from_slice_get values v bound bound has in
    omega (arith, one.1, ap (λ (bound : Bounds). bound.upper) is)

-- ---- when the child with `count` of the class is reachable

-- with `count` of the class, the size and the bounds of its values can still be met, and its household has at most one member
pub record Reached (all : Classes) (class : Class) (count : ℕ) (tally : Tally) : Type 0 where
  pub few : tally.taken + count ≤ all.size
  pub enough : all.size ≤ tally.taken + count + tally.later_taken
  pub values : AllReach all.bounds tally.held.items tally.later.items class.values count
  pub room : has_room tally.homes.items class.household count ≡ true

pub reached_live : (all : Classes) (front : List ℕ) (class : Class) (count : ℕ) (tally : Tally) → KeepsLimits all → HasPlaces all.bounds class → Stands all (length front) class → is_reachable all front ≡ true →
    Tracks all front (drop (length front + 1) all.classes) tally → Reached all class count tally → is_reachable all (front ++ count ∷ []) ≡ true
reached_live all front class count tally limits places stands live tracks reached =
    let ones = (and_parts (size_reachable all front && values_reachable all front) (takes_one_a_household all.classes front) live).1 in
    let child = front ++ count ∷ [] in
    let size : size_reachable all child ≡ true = size_of_child all front class count _ stands tracks
    ∙ and_from (leb (tally.taken + count) all.size) (leb all.size (tally.taken + count + tally.later_taken)) (le-leb (tally.taken + count) all.size reached.few) (le-leb all.size (tally.taken + count + tally.later_taken) reached.enough) in
    and_from (size_reachable all child && values_reachable all child) (takes_one_a_household all.classes child)
    (and_from (size_reachable all child) (values_reachable all child) size (values_of_child all front class count _ limits places stands live tracks reached.values))
    (sym (child_households all front class count (drop (length front + 1) all.classes) _ limits stands tracks ones class.household refl) ∙ reached.room)

pub live_reached : (all : Classes) (front : List ℕ) (class : Class) (count : ℕ) (tally : Tally) → KeepsLimits all → HasPlaces all.bounds class → Stands all (length front) class → is_reachable all front ≡ true →
    Tracks all front (drop (length front + 1) all.classes) tally → is_reachable all (front ++ count ∷ []) ≡ true → Reached all class count tally
live_reached all front class count tally limits places stands live tracks here =
    let ones = (and_parts (size_reachable all front && values_reachable all front) (takes_one_a_household all.classes front) live).1 in
    let child = front ++ count ∷ [] in
    let both = and_parts (size_reachable all child && values_reachable all child) (takes_one_a_household all.classes child) here in
    let parts = and_parts (size_reachable all child) (values_reachable all child) both.0 in
    let size = and_parts (leb (tally.taken + count) all.size) (leb all.size (tally.taken + count + tally.later_taken)) (sym (size_of_child all front class count _ stands tracks) ∙ parts.0) in
    record {
      few = leb-true (tally.taken + count) all.size size.0;
      enough = leb-true all.size (tally.taken + count + tally.later_taken) size.1;
      values = reach_of_child all front class count _ limits places stands tracks parts.1;
      room = child_households all front class count (drop (length front + 1) all.classes) _ limits stands tracks ones class.household refl ∙ both.1;
    }

-- ---- counts that make no reachable child are passed over

pub below_none : (low end : ℕ) → end ≤ low → counts_below low end ≡ []
below_none low zero l = refl
below_none low (suc n) l =
    (elim (leb low n) as (λ b. leb low n ≡ b → cond b (n ∷ counts_below low n) [] ≡ []) [
      | true ↦ λ t. absurd (omega (arith, leb-true low n t))
      | false ↦ λ f. refl
    ]) refl

pub below_next : (low end : ℕ) → low < end → counts_below low end ≡ (end - 1) ∷ counts_below low (end - 1)
below_next low zero l = absurd (omega arith)
below_next low (suc n) l =
    let less : suc n - 1 ≡ n = omega arith in
    let here = le-leb low n (omega arith) in
    ap (λ b. cond b (n ∷ counts_below low n) []) here ∙ ap (λ m. m ∷ counts_below low m) (sym less)

down_below : (least more : ℕ) → counts_down least more ≡ counts_below least (least + more + 1)
down_below least zero =
    let last : least + 0 + 1 - 1 ≡ least = omega arith in
    sym (below_next least (least + 0 + 1) (omega arith) ∙ ap (λ n. n ∷ counts_below least n) last ∙ ap (λ xs. least ∷ xs) (below_none least least (omega arith)))
down_below least (suc more) =
    let last : least + suc more + 1 - 1 ≡ least + suc more = omega arith in
    let next : least + suc more ≡ least + more + 1 = omega arith in
    ap (λ xs. (least + suc more) ∷ xs) (down_below least more ∙ ap (counts_below least) (sym next))
    ∙ sym (below_next least (least + suc more + 1) (omega arith) ∙ ap (λ n. n ∷ counts_below least n) last)

-- if exactly those counts of `from..until` pass a test that are in `low..end`, a filter by the test leaves these, the greatest first
passing : (passes : ℕ → Bool) (from until low end : ℕ) → ((c : ℕ) → low ≤ c → c < end → (from ≤ c) × (c < until) × (passes c ≡ true)) → ((c : ℕ) → from ≤ c → c < until → passes c ≡ true → (low ≤ c) × (c < end)) →
    filter passes (counts_below from until) ≡ counts_below low end
passing passes from zero low end inside outside = sym (below_none low end (empty (ltb low end) refl))
  where
    empty : (b : Bool) → ltb low end ≡ b → end ≤ low
    empty false f = ltb-false low end f
    empty true t = let l = ltb-true low end t in absurd (omega (arith, (inside low (omega arith) l).1))
passing passes from (suc m) low end inside outside =
    (elim (leb from m) as (λ b. leb from m ≡ b → filter passes (cond b (m ∷ counts_below from m) []) ≡ counts_below low end) [
      | true ↦ λ t. kept (leb-true from m t) (passes m) refl (λ low' end' i o. passing passes from m low' end' i o)
      | false ↦ λ f. sym (below_none low end (empty (leb-false from m f) (ltb low end) refl))
    ]) refl
  where
    empty : m < from → (b : Bool) → ltb low end ≡ b → end ≤ low
    empty n false f = ltb-false low end f
    empty n true t = let l = ltb-true low end t in let h = inside low (omega arith) l in absurd (omega (arith, h.0, h.1))

    -- if the last count, `m`, is in `low..end`, `end` is the number after it
    greatest : low ≤ m → m < end → (b : Bool) → ltb (suc m) end ≡ b → end ≡ suc m
    greatest l n false f = omega (arith, ltb-false (suc m) end f)
    greatest l n true t = let more = ltb-true (suc m) end t in absurd (omega (arith, (inside (suc m) (omega arith) more).1))

    kept : from ≤ m → (b : Bool) → passes m ≡ b →
        ((low' end' : ℕ) → ((c : ℕ) → low' ≤ c → c < end' → (from ≤ c) × (c < m) × (passes c ≡ true)) → ((c : ℕ) → from ≤ c → c < m → passes c ≡ true → (low' ≤ c) × (c < end')) → filter passes (counts_below from m) ≡ counts_below low' end') →
        filter passes (m ∷ counts_below from m) ≡ counts_below low end
    kept l true t rest =
        let here = outside m l (omega arith) t in
        let last = greatest here.0 here.1 (ltb (suc m) end) refl in
        let less : end - 1 ≡ m = omega (arith, last) in
        ap (λ b. cond b (m ∷ filter passes (counts_below from m)) (filter passes (counts_below from m))) t
        ∙ ap (λ xs. m ∷ xs)
        (rest low m (λ c l' n. let h = inside c l' (omega (arith, last)) in (h.0, n, h.2)) (λ c l' n p. let h = outside c l' (omega arith) p in (h.0, n)))
        ∙ sym (below_next low end (omega (arith, here.0, here.1)) ∙ ap (λ n. n ∷ counts_below low n) less)
    kept l false f rest =
        ap (λ b. cond b (m ∷ filter passes (counts_below from m)) (filter passes (counts_below from m))) f
        ∙ rest low end (λ c l' n. let h = inside c l' n in (h.0, before c h.1 h.2, h.2)) (λ c l' n p. outside c l' (omega arith) p)
      where
        before : (c : ℕ) → c < suc m → passes c ≡ true → c < m
        before c n p = (elim (eqb c m) as (λ b. eqb c m ≡ b → c < m) [
          | true ↦ λ t. let is = eqb-true c m t in absurd (false≢true (sym f ∙ ap passes (sym is) ∙ p))
          | false ↦ λ g. let apart = eqb-false c m g in omega (arith, n, apart)
        ]) refl

-- if exactly the counts in `low..end` of a class make reachable children of `front`, a filter of the class's counts leaves exactly these,
-- the greatest first
pub live_counts : (all : Classes) (front : List ℕ) (class : Class) (low end : ℕ) → class.least ≤ class.most →
    ((c : ℕ) → low ≤ c → c < end → (class.least ≤ c) × (c < class.most + 1) × (is_reachable all (front ++ c ∷ []) ≡ true)) →
    ((c : ℕ) → class.least ≤ c → c < class.most + 1 → is_reachable all (front ++ c ∷ []) ≡ true → (low ≤ c) × (c < end)) →
    filter (λ c. is_reachable all (front ++ c ∷ [])) (counts_of class) ≡ counts_below low end
live_counts all front class low end order inside outside =
    let whole : class.least + (class.most - class.least) + 1 ≡ class.most + 1 = omega arith in
    ap (filter (λ c. is_reachable all (front ++ c ∷ []))) (down_below class.least (class.most - class.least) ∙ ap (counts_below class.least) whole)
    ∙ passing (λ c. is_reachable all (front ++ c ∷ [])) class.least (class.most + 1) low end inside outside

-- of the counts of `class`, exactly those in `low..end` make reachable children of `front`
pub record LiveBetween (all : Classes) (front : List ℕ) (class : Class) (low end : ℕ) : Type 0 where
  pub inside : (c : ℕ) → low ≤ c → c < end → (class.least ≤ c) × (c < class.most + 1) × (is_reachable all (front ++ c ∷ []) ≡ true)
  pub outside : (c : ℕ) → class.least ≤ c → c < class.most + 1 → is_reachable all (front ++ c ∷ []) ≡ true → (low ≤ c) × (c < end)

-- `LiveBetween` follows from the code's contracts, which speak of the front `given` and of the numbers `least` and `most`
pub between : (all : Classes) (front given : List ℕ) (class : Class) (least most low end : ℕ) → given ≡ front → least ≡ class.least → most ≡ class.most →
    ((c : ℕ) → low ≤ c → c < end → (least ≤ c) × (c < most + 1) × (is_reachable all (given ++ c ∷ []) ≡ true)) →
    ((c : ℕ) → least ≤ c → c < most + 1 → is_reachable all (given ++ c ∷ []) ≡ true → (low ≤ c) × (c < end)) → LiveBetween all front class low end
between all front given class least most low end e f g inside outside = record {
  inside = λ c l m.
      let here = inside c l m in (omega (arith, here.0, f), omega (arith, here.1, g), ap (λ front. is_reachable all (front ++ c ∷ [])) (sym e) ∙ here.2);
  outside = λ c l m live. outside c (omega (arith, l, f)) (omega (arith, m, g)) (ap (λ front. is_reachable all (front ++ c ∷ [])) e ∙ live);
}
