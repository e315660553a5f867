-- The searches of a front's children, one after the other, and the steps that make them.
use Rattle.std.proofs.Common.{◌≡◌, ℕ, zero, suc, ◌+◌, ◌-◌, ◌≤◌, ◌<◌, Bool, true, false, cond, ◌&&◌, eqb, leb, List, [], ◌∷◌, ◌++◌, length, take, drop, filter, map, Some, None, Result, Ok, Err, refl, sym, ap, ◌∙◌, arith, subst}
use Rattle.std.specs.Prelude.{int_le, int_lt, IsErr}
use Rattle.std.specs.List.{list_all}
use Rattle.std.proofs.lemmas.Bool.{eqb-false, eqb-true, false≢true, leb-false, leb-true}
use Rattle.define_searches.specs.Classes.{Class, Classes}
use Rattle.define_searches.specs.Compositions.{counts_down, counts_of}
use Rattle.define_searches.specs.Fronts.{is_live_above, is_reachable, optimistic}
use Rattle.define_checks.specs.Visits.{enter_above}
use Rattle.define_rows.specs.Row.{Row}
use Rattle.define_searches.specs.Visits.{Search as Due, one_by_one}
use Rattle.check_search.specs.Steps.{StandsAt, Steps, StepsFrom, child_above, children_above, counts_at, counts_of_first}
use Rattle.check_search.specs.declared.searching.BudgetSpent.{BudgetSpent}
use Rattle.check_search.specs.declared.searching.Search.{Search}
use Rattle.define_searches.specs.Front.{Stands}
use Rattle.define_searches.proofs.InTurn.{after_nothing, at_least_one, found_at_once, found_later, then_next}
use Rattle.define_searches.proofs.Tracking.{comes_next}
use Rattle.define_searches.proofs.WeightLaws.{element_at}

-- The children's search is that of the first child, and then that of the others.
children_more : (all : Classes) (closed : List Row) (row : Row) (later : List Class) (front : List ℕ) (c : ℕ) (counts : List ℕ) →
    children_above all closed row later front (c ∷ counts) ≡ then_next (child_above all closed row later (front ++ c ∷ [])) (children_above all closed row later front counts)
children_more all closed row later front c counts =
    elim (is_live_above all closed row row.b (front ++ c ∷ [])) as (λ b. one_by_one (map (λ child. enter_above all closed row later child) (cond b ((front ++ c ∷ []) ∷ filter (is_live_above all closed row row.b) (map (λ c. front ++ c ∷ []) counts)) (filter (is_live_above all closed row row.b) (map (λ c. front ++ c ∷ []) counts))))
    ≡ then_next (cond b (enter_above all closed row later (front ++ c ∷ [])) (record { visits = 0; found = None })) (children_above all closed row later front counts)) [
      | true ↦ refl
      | false ↦ after_nothing (children_above all closed row later front counts)
    ]

-- the search of the child with `count` of the next class, or no visit if the child isn't live
abbrev pub child_at : Classes → List Row → Row → ℕ → List ℕ → ℕ → Due
child_at all closed row depth front count = child_above all closed row (drop (depth + 1) all.classes) (front ++ count ∷ [])

-- the searches of the live children with `least + above` down to `least` of the next class, one after the other
abbrev pub children_at : Classes → List Row → Row → ℕ → List ℕ → ℕ → ℕ → Due
children_at all closed row depth front least above = children_above all closed row (drop (depth + 1) all.classes) front (counts_down least above)

-- if `above` is 0, the child with `least` is the last one
children_last : (all : Classes) (closed : List Row) (row : Row) (depth : ℕ) (front : List ℕ) (least above : ℕ) → above ≡ 0 →
    children_at all closed row depth front least above ≡ then_next (child_at all closed row depth front (least + above)) (record { visits = 0; found = None })
children_last all closed row depth front least above e =
    let same : least + above ≡ least = omega arith in
    ap (children_at all closed row depth front least) e
    ∙ (children_more all closed row (drop (depth + 1) all.classes) front least []
    ∙ ap (λ n. then_next (child_at all closed row depth front n) (record { visits = 0; found = None })) (sym same))

-- if `above` isn't 0, the child with `least + above` comes first, and then the children with smaller counts
children_next : (all : Classes) (closed : List Row) (row : Row) (depth : ℕ) (front : List ℕ) (least above : ℕ) → (above ≡ 0 → ⊥) →
    children_at all closed row depth front least above ≡ then_next (child_at all closed row depth front (least + above)) (children_at all closed row depth front least (above - 1))
children_next all closed row depth front least zero some = absurd (some refl)
children_next all closed row depth front least (suc more) some =
    let less : suc more - 1 ≡ more = omega arith in
    children_more all closed row (drop (depth + 1) all.classes) front (least + suc more) (counts_down least more)
    ∙ ap (λ n. then_next (child_at all closed row depth front (least + suc more)) (children_at all closed row depth front least n)) (sym less)

-- ---- two searches, one after the other, in one step

-- If the search `one` finds nothing, and a step after it makes the search `rest`, the two together are one step that makes both searches.
pub both : (all : Classes) (closed : List Row) (row : Row) (depth : ℕ) (later : List Class) (one rest : Due) (before mid : Search) (result : Result Bool BudgetSpent) (after : Search) →
    before.left ≡ mid.left + one.visits → one.found ≡ None → take depth mid.counts.items ≡ take depth before.counts.items →
    Steps all closed row depth later rest mid result after → Steps all closed row depth later (then_next one rest) before result after
both all closed row depth later one rest before mid (Ok true) after left none same steps =
    let due = found_later one rest none in rw due (omega (arith, steps.0), steps.1)
both all closed row depth later one rest before mid (Ok false) after left none same steps =
    let due = found_later one rest none in rw due (omega (arith, steps.0), steps.1, steps.2 ∙ same, steps.3)
both all closed row depth later one rest before mid (Err spent) after left none same steps =
    let due = found_later one rest none in rw due (omega arith)

-- ---- steps by what they return: a spent budget, true or false

pub steps_err : (all : Classes) (closed : List Row) (row : Row) (depth : ℕ) (later : List Class) (due : Due) (before : Search) (result : Result Bool BudgetSpent) (after : Search) → IsErr result → before.left < due.visits → Steps all closed row depth later due before result after
steps_err all closed row depth later due before (Ok found) after e lt = absurd (false≢true e)
steps_err all closed row depth later due before (Err spent) after e lt = lt

pub steps_true : (all : Classes) (closed : List Row) (row : Row) (depth : ℕ) (later : List Class) (due : Due) (left : ℕ) (front : List ℕ) (found : Bool) (after : Search) → StepsFrom all closed row depth later due left front (Ok found) after → found ≡ true →
    (left ≡ after.left + due.visits) × (due.found ≡ Some after.counts.items)
steps_true all closed row depth later due left front true after steps e = steps
steps_true all closed row depth later due left front false after steps e = cc

pub steps_false : (all : Classes) (closed : List Row) (row : Row) (depth : ℕ) (later : List Class) (due : Due) (left : ℕ) (front : List ℕ) (found : Bool) (after : Search) → StepsFrom all closed row depth later due left front (Ok found) after → found ≡ false →
    (left ≡ after.left + due.visits) × (due.found ≡ None) × (take depth after.counts.items ≡ front) × StandsAt all closed row depth later after
steps_false all closed row depth later due left front true after steps e = cc
steps_false all closed row depth later due left front false after steps e = steps

children_split : (all : Classes) (closed : List Row) (row : Row) (depth : ℕ) (front : List ℕ) (least above : ℕ) →
    (rest : Due) × (children_at all closed row depth front least above ≡ then_next (child_at all closed row depth front (least + above)) rest)
children_split all closed row depth front least zero = (record { visits = 0; found = None }, children_last all closed row depth front least zero refl)
children_split all closed row depth front least (suc more) =
    (children_at all closed row depth front least (suc more - 1), children_next all closed row depth front least (suc more) (λ z. absurd (omega arith)))

pub first_spent : (all : Classes) (closed : List Row) (row : Row) (depth : ℕ) (front : List ℕ) (least above left : ℕ) →
    left < (child_at all closed row depth front (least + above)).visits → left < (children_at all closed row depth front least above).visits
first_spent all closed row depth front least above left lt =
    let split = children_split all closed row depth front least above in
    let more = at_least_one (child_at all closed row depth front (least + above)) split.0 in
    let due = split.1 in rw due (omega arith)

pub first_found : (all : Classes) (closed : List Row) (row : Row) (depth : ℕ) (front : List ℕ) (least above left after : ℕ) (found : List ℕ) →
    left ≡ after + (child_at all closed row depth front (least + above)).visits → (child_at all closed row depth front (least + above)).found ≡ Some found →
    (left ≡ after + (children_at all closed row depth front least above).visits) × ((children_at all closed row depth front least above).found ≡ Some found)
first_found all closed row depth front least above left after found f g =
    let split = children_split all closed row depth front least above in
    let due = split.1 ∙ found_at_once (child_at all closed row depth front (least + above)) split.0 found g in
    rw due (f, g)

pub last_none : (all : Classes) (closed : List Row) (row : Row) (depth : ℕ) (front : List ℕ) (least above left after : ℕ) → above ≡ 0 →
    left ≡ after + (child_at all closed row depth front (least + above)).visits → (child_at all closed row depth front (least + above)).found ≡ None →
    (left ≡ after + (children_at all closed row depth front least above).visits) × ((children_at all closed row depth front least above).found ≡ None)
last_none all closed row depth front least above left after z f g =
    let due = children_last all closed row depth front least above z ∙ found_later (child_at all closed row depth front (least + above)) (record { visits = 0; found = None }) g in
    rw due (omega arith, refl)

pub next_steps : (all : Classes) (closed : List Row) (row : Row) (depth least above : ℕ) (before mid : Search) (result : Result Bool BudgetSpent) (after : Search) → (above ≡ 0 → ⊥) →
    before.left ≡ mid.left + (child_at all closed row depth (take depth before.counts.items) (least + above)).visits → (child_at all closed row depth (take depth before.counts.items) (least + above)).found ≡ None →
    take depth mid.counts.items ≡ take depth before.counts.items →
    Steps all closed row depth (drop (depth + 1) all.classes) (children_at all closed row depth (take depth mid.counts.items) least (above - 1)) mid result after →
    Steps all closed row depth (drop (depth + 1) all.classes) (children_at all closed row depth (take depth before.counts.items) least above) before result after
next_steps all closed row depth least above before mid result after some left none same steps =
    let front = take depth before.counts.items in
    let steps' = subst (λ f. Steps all closed row depth (drop (depth + 1) all.classes) (children_at all closed row depth f least (above - 1)) mid result after) same steps in
    subst (λ d. Steps all closed row depth (drop (depth + 1) all.classes) d before result after) (sym (children_next all closed row depth front least above some))
    (both all closed row depth (drop (depth + 1) all.classes) (child_at all closed row depth front (least + above)) (children_at all closed row depth front least (above - 1)) before mid result after left none same steps')

-- ---- counts that are ruled out

module _ (all : Classes) (closed : List Row) (row : Row) (depth : ℕ) (front : List ℕ) where
  -- the child with `c` of the next class isn't reachable
  abbrev Dead : ℕ → Type 0
  Dead c = is_reachable all (front ++ c ∷ []) ≡ false

  abbrev nothing : Due
  nothing = record { visits = 0; found = None }

  abbrev among : List ℕ → Due
  among counts = children_above all closed row (drop (depth + 1) all.classes) front counts

  dead_first : (c : ℕ) (counts : List ℕ) → Dead c → among (c ∷ counts) ≡ among counts
  dead_first c counts dead =
      let child = front ++ c ∷ [] in let later = drop (depth + 1) all.classes in
      let here : child_above all closed row later child ≡ nothing =
      ap (λ b. cond (b && list_all (λ r. int_le r.b (optimistic all r child)) closed && int_lt row.b (optimistic all row child)) (enter_above all closed row later child) nothing) dead in
      children_more all closed row later front c counts ∙ (ap (λ one. then_next one (among counts)) here ∙ sym (after_nothing (among counts)))

  all_dead : (least n : ℕ) → ((c : ℕ) → least ≤ c → c ≤ least + n → Dead c) → among (counts_down least n) ≡ nothing
  all_dead least zero dead = dead_first least [] (dead least (omega arith) (omega arith))
  all_dead least (suc n) dead = dead_first (least + suc n) (counts_down least n) (dead (least + suc n) (omega arith) (omega arith)) ∙ all_dead least n (λ c l u. dead c l (omega arith))

  skip_above : (least n m : ℕ) → m ≤ n → ((c : ℕ) → least + m < c → c ≤ least + n → Dead c) → among (counts_down least n) ≡ among (counts_down least m)
  skip_above least zero m le dead = let e : zero ≡ m = omega arith in ap (λ k. among (counts_down least k)) e
  skip_above least (suc n) m le dead =
      let rest : m ≤ n → among (counts_down least n) ≡ among (counts_down least m) = λ less. skip_above least n m less (λ c l u. dead c l (omega arith)) in
      (elim (eqb m (suc n)) as (λ b. eqb m (suc n) ≡ b → among (counts_down least (suc n)) ≡ among (counts_down least m)) [
        | true ↦ λ t. ap (λ k. among (counts_down least k)) (sym (eqb-true m (suc n) t))
        | false ↦ λ t. let other = eqb-false m (suc n) t in
            dead_first (least + suc n) (counts_down least n) (dead (least + suc n) (omega arith) (omega arith)) ∙ rest (omega arith)
      ]) refl

  skip_below : (least k m : ℕ) → ((c : ℕ) → least ≤ c → c < least + k → Dead c) → among (counts_down least (k + m)) ≡ among (counts_down (least + k) m)
  skip_below least zero m dead =
      let e : zero + m ≡ m = omega arith in let f : least + zero ≡ least = omega arith in rw (e, f) refl
  skip_below least (suc k) zero dead =
      let e : suc k + zero ≡ suc k = omega arith in
      ap (λ n. among (counts_down least n)) e
      ∙ (children_more all closed row (drop (depth + 1) all.classes) front (least + suc k) (counts_down least k)
      ∙ (ap (then_next (child_at all closed row depth front (least + suc k))) (all_dead least k (λ c l u. dead c l (omega arith)))
      ∙ sym (children_more all closed row (drop (depth + 1) all.classes) front (least + suc k) [])))
  skip_below least (suc k) (suc m) dead =
      let e : suc k + suc m ≡ suc (suc k + m) = omega arith in
      let f : least + suc (suc k + m) ≡ least + suc k + suc m = omega arith in
      ap (λ n. among (counts_down least n)) e
      ∙ (children_more all closed row (drop (depth + 1) all.classes) front (least + suc (suc k + m)) (counts_down least (suc k + m))
      ∙ (ap (λ n. then_next (child_at all closed row depth front n) (among (counts_down least (suc k + m)))) f
      ∙ (ap (then_next (child_at all closed row depth front (least + suc k + suc m))) (skip_below least (suc k) m dead)
      ∙ sym (children_more all closed row (drop (depth + 1) all.classes) front (least + suc k + suc m) (counts_down (least + suc k) m)))))

  -- If only children with counts from `low` to `top` are reachable, the search of all counts of the class is that of the counts from `top`
  -- down to `low`.
  pub only_within : (class : Class) (low top : ℕ) → Stands all depth class → class.least ≤ class.most → class.least ≤ low → top ≤ class.most → low ≤ top → ((c : ℕ) → top < c → c ≤ class.most → Dead c) →
      ((c : ℕ) → c < low → class.least ≤ c → Dead c) → among (counts_at all depth) ≡ among (counts_down low (top - low))
  only_within class low top stands ordered l u lu above below =
      let e : class.least + (class.most - class.least) ≡ class.most = omega arith in
      let f : class.least + (top - class.least) ≡ top = omega arith in
      let g : top - class.least ≡ low - class.least + (top - low) = omega arith in
      let h : class.least + (low - class.least) ≡ low = omega arith in
      ap (λ classes. among (counts_of_first classes)) (comes_next all depth class stands)
      ∙ (skip_above class.least (class.most - class.least) (top - class.least) (omega arith) (λ c m n. above c (omega (arith, m, f)) (omega (arith, n, e)))
      ∙ (ap (λ n. among (counts_down class.least n)) g
      ∙ (skip_below class.least (low - class.least) (top - low) (λ c m n. below c (omega (arith, n, h)) m)
      ∙ ap (λ n. among (counts_down n (top - low))) h)))

  -- If only children with counts from `low` to `top` may be reachable, and `top` is below `low`, the search makes no visit, and finds
  -- nothing.
  pub none_left : (class : Class) (low top : ℕ) → Stands all depth class → class.least ≤ class.most → top < low → ((c : ℕ) → top < c → c ≤ class.most → Dead c) → ((c : ℕ) → c < low → class.least ≤ c → Dead c) →
      among (counts_at all depth) ≡ nothing
  none_left class low top stands ordered passed above below =
      let e : class.least + (class.most - class.least) ≡ class.most = omega arith in
      ap (λ classes. among (counts_of_first classes)) (comes_next all depth class stands)
      ∙ all_dead class.least (class.most - class.least) (λ c m n. (elim (leb c top) as (λ b. leb c top ≡ b → Dead c) [
        | true ↦ λ t. let le = leb-true c top t in below c (omega arith) m
        | false ↦ λ t. let lt = leb-false c top t in above c lt (omega (arith, n, e))
      ]) refl)

-- ---- the search that enters a front

pub enter_visits : (all : Classes) (closed : List Row) (row : Row) (later : List Class) (front : List ℕ) → 0 < (enter_above all closed row later front).visits
enter_visits all closed row [] front = omega arith
enter_visits all closed row (class ∷ later) front = omega arith

pub enter_due : (all : Classes) (closed : List Row) (row : Row) (depth : ℕ) (front front' : List ℕ) → depth < length all.classes → front' ≡ front →
    enter_above all closed row (drop depth all.classes) front ≡ record {
      visits = 1 + (children_above all closed row (drop (depth + 1) all.classes) front' (counts_at all depth)).visits;
      found = (children_above all closed row (drop (depth + 1) all.classes) front' (counts_at all depth)).found;
    }
enter_due all closed row depth front front' below f =
    let later = drop (depth + 1) all.classes in
    let class = element_at all.classes depth below in
    let next : drop depth all.classes ≡ class.0 ∷ later = comes_next all depth class.0 (record { below = below; is = class.1 }) in
    let here : counts_at all depth ≡ counts_of class.0 = ap counts_of_first next in
    ap (λ classes. enter_above all closed row classes front) next
    ∙ ap (λ counts. let due : Due = record { visits = 1 + (children_above all closed row later front counts).visits; found = (children_above all closed row later front counts).found } in due) (sym here)
    ∙ ap (λ f. let due : Due = record { visits = 1 + (children_above all closed row later f (counts_at all depth)).visits; found = (children_above all closed row later f (counts_at all depth)).found } in due) (sym f)

-- If a child is live, its search is the one that enters it.
pub child_due : (all : Classes) (closed : List Row) (row : Row) (later : List Class) (child child' : List ℕ) → is_live_above all closed row row.b child ≡ true → child' ≡ child → child_above all closed row later child ≡ enter_above all closed row later child'
child_due all closed row later child child' live e =
    ap (λ b. cond b (enter_above all closed row later child) (record { visits = 0; found = None })) live ∙ ap (enter_above all closed row later) (sym e)
