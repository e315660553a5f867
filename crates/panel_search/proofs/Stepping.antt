-- How the search for the first composition goes through the children of a front, one after the other.
use Rattle.std.proofs.Common.{◌≡◌, ℕ, ◌+◌, ◌-◌, ◌≤◌, ◌<◌, Bool, true, false, cond, List, [], ◌∷◌, ◌++◌, take, drop, filter, map, Some, None, Result, Ok, Err, refl, sym, ap, ◌∙◌, arith, subst}
use Rattle.std.specs.Prelude.{IsErr}
use Rattle.std.proofs.lemmas.Bool.{false≢true}
use Rattle.define_searches.specs.Classes.{Class, Classes}
use Rattle.define_searches.specs.Compositions.{counts_of}
use Rattle.define_searches.specs.Fronts.{is_reachable}
use Rattle.define_searches.specs.Visits.{Search as Due, one_by_one, enter_first}
use Rattle.panel_search.specs.Steps.{StandsAt, Steps, StepsFrom, child_first, children_first, counts_below}
use Rattle.panel_search.specs.declared.searching.BudgetSpent.{BudgetSpent}
use Rattle.panel_search.specs.declared.searching.Search.{Search}
use Rattle.panel_search.proofs.Ranges.{LiveBetween, below_next, below_none, live_counts}
use Rattle.define_searches.specs.Front.{Stands}
use Rattle.define_searches.proofs.InTurn.{after_nothing, at_least_one, found_at_once, found_later, then_next}
use Rattle.define_searches.proofs.Tracking.{comes_next}

-- to search the children with the counts `c ∷ counts` is to search the child with `c` and then, if nothing was found, those with `counts`
children_more : (all : Classes) (later : List Class) (front : List ℕ) (c : ℕ) (counts : List ℕ) →
    children_first all later front (c ∷ counts) ≡ then_next (child_first all later (front ++ c ∷ [])) (children_first all later front counts)
children_more all later front c counts =
    elim (is_reachable all (front ++ c ∷ [])) as (λ b. one_by_one (map (λ child. enter_first all later child) (cond b ((front ++ c ∷ []) ∷ filter (is_reachable all) (map (λ c. front ++ c ∷ []) counts)) (filter (is_reachable all) (map (λ c. front ++ c ∷ []) counts))))
    ≡ then_next (cond b (enter_first all later (front ++ c ∷ [])) (record { visits = 0; found = None })) (children_first all later front counts)) [
      | true ↦ refl
      | false ↦ after_nothing (children_first all later front counts)
    ]

-- the search of the children is the same if the counts of the children that aren't reachable are left out
passed_over : (all : Classes) (later : List Class) (front counts : List ℕ) → children_first all later front counts ≡ children_first all later front (filter (λ c. is_reachable all (front ++ c ∷ [])) counts)
passed_over all later front counts = ap (λ children. one_by_one (map (λ child. enter_first all later child) children)) (kept counts)
  where
    kept : (counts : List ℕ) → filter (is_reachable all) (map (λ c. front ++ c ∷ []) counts) ≡ filter (is_reachable all) (map (λ c. front ++ c ∷ []) (filter (λ c. is_reachable all (front ++ c ∷ [])) counts))
    kept [] = refl
    kept (c ∷ counts) =
        let child = front ++ c ∷ [] in
        let rest = kept counts in
        let left = filter (is_reachable all) (map (λ c. front ++ c ∷ []) counts) in
        let others = filter (λ c. is_reachable all (front ++ c ∷ [])) counts in
        let right = filter (is_reachable all) (map (λ c. front ++ c ∷ []) others) in
        (elim (is_reachable all child) as (λ b. is_reachable all child ≡ b → cond (is_reachable all child) (child ∷ left) left ≡ filter (is_reachable all) (map (λ c. front ++ c ∷ []) (cond b (c ∷ others) others))) [
          | true ↦ λ e. ap (λ children. cond (is_reachable all child) (child ∷ children) children) rest
          | false ↦ λ e. ap (λ b. cond b (child ∷ left) left) e ∙ rest
        ]) refl

-- ---- steps

-- if the search `one` found nothing from `before` to `mid`, and the step from `mid` does what `rest` says, then the whole step from
-- `before` does what `one` and then `rest` say
pub both : (all : Classes) (depth : ℕ) (later : List Class) (one rest : Due) (before mid : Search) (result : Result Bool BudgetSpent) (after : Search) →
    before.left ≡ mid.left + one.visits → one.found ≡ None → take depth mid.counts.items ≡ take depth before.counts.items →
    Steps all depth later rest mid result after → Steps all depth later (then_next one rest) before result after
both all depth later one rest before mid (Ok true) after left none same steps =
    let due = found_later one rest none in rw due (omega (arith, steps.0), steps.1)
both all depth later one rest before mid (Ok false) after left none same steps =
    let due = found_later one rest none in rw due (omega (arith, steps.0), steps.1, steps.2 ∙ same, steps.3)
both all depth later one rest before mid (Err spent) after left none same steps =
    let due = found_later one rest none in rw due (omega arith)

-- ---- what the contracts of the code need

pub steps_err : (all : Classes) (depth : ℕ) (later : List Class) (due : Due) (before : Search) (result : Result Bool BudgetSpent) (after : Search) → IsErr result → before.left < due.visits → Steps all depth later due before result after
steps_err all depth later due before (Ok found) after e lt = absurd (false≢true e)
steps_err all depth later due before (Err spent) after e lt = lt

pub steps_true : (all : Classes) (depth : ℕ) (later : List Class) (due : Due) (left : ℕ) (front : List ℕ) (found : Bool) (after : Search) → StepsFrom all depth later due left front (Ok found) after → found ≡ true →
    (left ≡ after.left + due.visits) × (due.found ≡ Some after.counts.items)
steps_true all depth later due left front true after steps e = steps
steps_true all depth later due left front false after steps e = cc

pub steps_false : (all : Classes) (depth : ℕ) (later : List Class) (due : Due) (left : ℕ) (front : List ℕ) (found : Bool) (after : Search) → StepsFrom all depth later due left front (Ok found) after → found ≡ false →
    (left ≡ after.left + due.visits) × (due.found ≡ None) × (take depth after.counts.items ≡ front) × StandsAt all depth later after
steps_false all depth later due left front true after steps e = cc
steps_false all depth later due left front false after steps e = steps

-- the search of the child of `front` with `count` of the next class, if this child is reachable
abbrev pub child_at : Classes → ℕ → List ℕ → ℕ → Due
child_at all depth front count = child_first all (drop (depth + 1) all.classes) (front ++ count ∷ [])

abbrev pub children_within : Classes → ℕ → List ℕ → ℕ → ℕ → Due
children_within all depth front low end = children_first all (drop (depth + 1) all.classes) front (counts_below low end)

-- if `end` is at most `low`, no child is searched
pub children_none : (all : Classes) (depth : ℕ) (front : List ℕ) (low end : ℕ) → end ≤ low → children_within all depth front low end ≡ record { visits = 0; found = None }
children_none all depth front low end l = ap (children_first all (drop (depth + 1) all.classes) front) (below_none low end l)

-- if `low` is below `end`, the children with counts in `low..end` are searched from the greatest count down: first the child with
-- `end - 1`, then those with smaller counts
children_next : (all : Classes) (depth : ℕ) (front : List ℕ) (low end : ℕ) → low < end → children_within all depth front low end ≡ then_next (child_at all depth front (end - 1)) (children_within all depth front low (end - 1))
children_next all depth front low end l =
    ap (children_first all (drop (depth + 1) all.classes) front) (below_next low end l) ∙ children_more all (drop (depth + 1) all.classes) front (end - 1) (counts_below low (end - 1))

pub first_spent : (all : Classes) (depth : ℕ) (front : List ℕ) (low end left : ℕ) → low < end → left < (child_at all depth front (end - 1)).visits → left < (children_within all depth front low end).visits
first_spent all depth front low end left l lt =
    let least = at_least_one (child_at all depth front (end - 1)) (children_within all depth front low (end - 1)) in
    let due = children_next all depth front low end l in rw due (omega arith)

pub first_found : (all : Classes) (depth : ℕ) (front : List ℕ) (low end left after : ℕ) (found : List ℕ) → low < end →
    left ≡ after + (child_at all depth front (end - 1)).visits → (child_at all depth front (end - 1)).found ≡ Some found →
    (left ≡ after + (children_within all depth front low end).visits) × ((children_within all depth front low end).found ≡ Some found)
first_found all depth front low end left after found l f g =
    let due = children_next all depth front low end l ∙ found_at_once (child_at all depth front (end - 1)) (children_within all depth front low (end - 1)) found g in
    rw due (f, g)

pub next_steps : (all : Classes) (depth low end : ℕ) (before mid : Search) (result : Result Bool BudgetSpent) (after : Search) → low < end →
    before.left ≡ mid.left + (child_at all depth (take depth before.counts.items) (end - 1)).visits → (child_at all depth (take depth before.counts.items) (end - 1)).found ≡ None →
    take depth mid.counts.items ≡ take depth before.counts.items →
    Steps all depth (drop (depth + 1) all.classes) (children_within all depth (take depth mid.counts.items) low (end - 1)) mid result after →
    Steps all depth (drop (depth + 1) all.classes) (children_within all depth (take depth before.counts.items) low end) before result after
next_steps all depth low end before mid result after l left none same steps =
    let front = take depth before.counts.items in
    let steps' = subst (λ f. Steps all depth (drop (depth + 1) all.classes) (children_within all depth f low (end - 1)) mid result after) same steps in
    subst (λ d. Steps all depth (drop (depth + 1) all.classes) d before result after) (sym (children_next all depth front low end l))
    (both all depth (drop (depth + 1) all.classes) (child_at all depth front (end - 1)) (children_within all depth front low (end - 1)) before mid result after left none same steps')

-- ---- entering a front

pub enter_visits : (all : Classes) (later : List Class) (front : List ℕ) → 0 < (enter_first all later front).visits
enter_visits all [] front = omega arith
enter_visits all (class ∷ later) front = omega arith

pub enter_due : (all : Classes) (depth : ℕ) (class : Class) (front front' : List ℕ) (low end : ℕ) → Stands all depth class → class.least ≤ class.most → front' ≡ front → LiveBetween all front' class low end →
    enter_first all (drop depth all.classes) front ≡ record { visits = 1 + (children_within all depth front' low end).visits; found = (children_within all depth front' low end).found }
enter_due all depth class front front' low end stands order e live =
    ap (enter_first all (drop depth all.classes)) (sym e)
    ∙ ap (λ later. enter_first all later front') (comes_next all depth class stands)
    ∙ ap (λ (below : Due). let due : Due = record { visits = 1 + below.visits; found = below.found } in due)
    (passed_over all (drop (depth + 1) all.classes) front' (counts_of class) ∙ ap (children_first all (drop (depth + 1) all.classes) front') (live_counts all front' class low end order live.inside live.outside))

-- to search a reachable child is to enter it
pub child_due : (all : Classes) (later : List Class) (child child' : List ℕ) → is_reachable all child ≡ true → child' ≡ child → child_first all later child ≡ enter_first all later child'
child_due all later child child' live e =
    ap (λ b. cond b (enter_first all later child) (record { visits = 0; found = None })) live ∙ ap (enter_first all later) (sym e)
