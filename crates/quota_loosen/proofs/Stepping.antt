-- How the search for the cheapest team goes through the children of a front, one after the other.
use Rattle.std.proofs.Common.{◌≡◌, ℕ, zero, suc, ◌+◌, ◌-◌, ◌≤◌, ◌<◌, Bool, true, false, cond, ◌&&◌, ltb, List, [], ◌∷◌, ◌++◌, length, take, drop, set, Option, Some, None, Result, Ok, Err, refl, sym, ap, ◌∙◌, arith, subst}
use Rattle.std.specs.Prelude.{IsErr}
use Rattle.std.proofs.lemmas.Bool.{false≢true, and_parts}
use Rattle.std.proofs.lemmas.List.{length-set}
use Rattle.define_quotas.specs.Costs.{cost, sure_cost, widened}
use Rattle.define_quotas.specs.CostSearch.{CostSearch, cheapest_search, enter_cheapest, is_live_below, leads_to_team, may_cost_less}
use Rattle.define_searches.specs.Classes.{Class, Classes}
use Rattle.define_searches.specs.Compositions.{counts_down, counts_of}
use Rattle.define_searches.specs.Fronts.{taken_by}
use Rattle.define_searches.specs.Front.{Stands}
use Rattle.define_searches.proofs.Fronts.{front_of, front_length, placed}
use Rattle.define_searches.proofs.Tracking.{comes_next}
use Rattle.define_searches.proofs.WeightLaws.{taken_few}
use Rattle.quota_loosen.proofs.Liveness.{whole_cost}
use Rattle.quota_loosen.proofs.LoosenedParts.{all_taken}
use Rattle.quota_loosen.specs.Front.{Tracks}
use Rattle.quota_loosen.specs.Steps.{IsLeastCost, Moves, StandsAt, child_cheapest, children_cheapest, kept_of, search_of}
use Rattle.quota_loosen.specs.declared.searching.BudgetSpent.{BudgetSpent}
use Rattle.quota_loosen.specs.declared.searching.Search.{Search}

-- ---- visits only grow

child_more : (all : Classes) (later : List Class) (child : List ℕ) (now : CostSearch) → ((front : List ℕ) (now : CostSearch) → now.visits ≤ (enter_cheapest all later front now).visits) →
    now.visits ≤ (child_cheapest all later child now).visits
child_more all later child now h =
    let enters = h child now in
    elim (is_live_below all now.kept child) as (λ b. now.visits ≤ (cond b (enter_cheapest all later child now) now).visits) [
      | true ↦ enters
      | false ↦ omega arith
    ]

children_more : (all : Classes) (later : List Class) (front counts : List ℕ) (now : CostSearch) → ((front : List ℕ) (now : CostSearch) → now.visits ≤ (enter_cheapest all later front now).visits) →
    now.visits ≤ (children_cheapest all later front counts now).visits
children_more all later front [] now h = omega arith
children_more all later front (c ∷ counts) now h =
    let one = child_more all later (front ++ c ∷ []) now h in
    let rest = children_more all later front counts (child_cheapest all later (front ++ c ∷ []) now) h in omega arith

pub enter_more : (all : Classes) (later : List Class) (front : List ℕ) (now : CostSearch) → now.visits + 1 ≤ (enter_cheapest all later front now).visits
enter_more all [] front now = omega arith
enter_more all (class ∷ later) front now =
    children_more all later front (counts_of class) (record { visits = now.visits + 1; kept = now.kept }) (λ f n. let more = enter_more all later f n in omega arith)

enter_no_less : (all : Classes) (later : List Class) (front : List ℕ) (now : CostSearch) → now.visits ≤ (enter_cheapest all later front now).visits
enter_no_less all later front now = let more = enter_more all later front now in omega arith

-- ---- the children of a front

pub last_child : (all : Classes) (later : List Class) (front : List ℕ) (least more : ℕ) (now : CostSearch) → more ≡ 0 →
    children_cheapest all later front (counts_down least more) now ≡ child_cheapest all later (front ++ (least + more) ∷ []) now
last_child all later front least zero now e = let s : least + 0 ≡ least = omega arith in rw s refl
last_child all later front least (suc more) now e = absurd (omega arith)

pub next_child : (all : Classes) (later : List Class) (front : List ℕ) (least more : ℕ) (now : CostSearch) → (more ≡ 0 → ⊥) →
    children_cheapest all later front (counts_down least more) now ≡ children_cheapest all later front (counts_down least (more - 1)) (child_cheapest all later (front ++ (least + more) ∷ []) now)
next_child all later front least zero now e = absurd (e refl)
next_child all later front least (suc more) now e = let s : suc more - 1 ≡ more = omega arith in rw s refl

pub child_within : (all : Classes) (later : List Class) (front : List ℕ) (least more : ℕ) (now : CostSearch) →
    (child_cheapest all later (front ++ (least + more) ∷ []) now).visits ≤ (children_cheapest all later front (counts_down least more) now).visits
child_within all later front least zero now =
    let s : least + 0 ≡ least = omega arith in rw s (omega arith)
child_within all later front least (suc more) now =
    children_more all later front (counts_down least more) (child_cheapest all later (front ++ (least + suc more) ∷ []) now) (enter_no_less all later)

-- to enter a front is one visit and the search of its children
pub enter_children : (all : Classes) (depth : ℕ) (class : Class) (front : List ℕ) (now : CostSearch) → Stands all depth class →
    enter_cheapest all (drop depth all.classes) front now
    ≡ children_cheapest all (drop (depth + 1) all.classes) front (counts_down class.least (class.most - class.least)) (record { visits = now.visits + 1; kept = now.kept })
enter_children all depth class front now stands = ap (λ later. enter_cheapest all later front now) (comes_next all depth class stands)

drop_all : (xs : List Class) (n : ℕ) → n ≡ length xs → drop n xs ≡ []
drop_all [] zero e = refl
drop_all [] (suc n) e = absurd (omega arith)
drop_all (x ∷ xs) zero e = absurd (omega arith)
drop_all (x ∷ xs) (suc n) e = drop_all xs n (omega arith)

pub none_later : (all : Classes) (depth : ℕ) → depth ≡ length all.classes → drop depth all.classes ≡ []
none_later all depth e = drop_all all.classes depth e

pub enter_whole : (all : Classes) (depth : ℕ) (front : List ℕ) (now : CostSearch) → depth ≡ length all.classes →
    enter_cheapest all (drop depth all.classes) front now ≡ record { visits = now.visits + 1; kept = Some front }
enter_whole all depth front now e = ap (λ later. enter_cheapest all later front now) (none_later all depth e)

pub taken_if_live : (all : Classes) (kept : Option (List ℕ)) (front : List ℕ) → is_live_below all kept front ≡ true → taken_by all front ≤ all.size
taken_if_live all kept front live = taken_few (widened all) front (and_parts (leads_to_team all front) (may_cost_less all kept front) live).0

-- ---- what the contracts of the code need

pub moves_err : (all : Classes) (depth : ℕ) (rest : List Class) (due : CostSearch) (front : List ℕ) (nodes : ℕ) (result : Result (Unit {0}) BudgetSpent) (after : Search) →
    IsErr result → nodes < due.visits → Moves all depth rest due front nodes result after
moves_err all depth rest due front nodes (Ok done) after e lt = absurd (false≢true e)
moves_err all depth rest due front nodes (Err spent) after e lt = lt

pub moves_same : (all : Classes) (depth : ℕ) (rest : List Class) (due due' : CostSearch) (front front' : List ℕ) (nodes nodes' : ℕ) (result : Result (Unit {0}) BudgetSpent) (after : Search) →
    due ≡ due' → front ≡ front' → nodes ≡ nodes' → Moves all depth rest due front nodes result after → Moves all depth rest due' front' nodes' result after
moves_same all depth rest due due' front front' nodes nodes' result after e f g moves =
    subst (λ d. Moves all depth rest d front' nodes' result after) e
    (subst (λ x. Moves all depth rest due x nodes' result after) f
    (subst (λ n. Moves all depth rest due front n result after) g moves))

-- ---- where a search is

-- if only the tally changes, and it still tracks the same front, now with the classes `rest'` to come, the search is at the same front
pub stands_with : (all : Classes) (depth : ℕ) (rest rest' : List Class) (before after : Search) → StandsAt all depth rest before → after.counts.items ≡ before.counts.items → after.kept.items ≡ before.kept.items →
    after.least ≡ before.least → Tracks all (take depth before.counts.items) rest' after.tally → StandsAt all depth rest' after
stands_with all depth rest rest' before after stands e f g tracks = record {
  places = ap length e ∙ stands.places;
  kept_places = ap length f ∙ stands.kept_places;
  within = stands.within;
  tally = subst (λ xs. Tracks all (take depth xs) rest' after.tally) (sym e) tracks;
  least = subst (λ kept. IsLeastCost all after.least kept) (sym f) (subst (λ least. IsLeastCost all least before.kept.items) (sym g) stands.least);
}

-- if a search at a front takes `count` of the next class, it is at the child
pub child_stands : (all : Classes) (depth count : ℕ) (rest : List Class) (before after : Search) → StandsAt all depth rest before → depth < length all.classes → after.counts.items ≡ set before.counts.items depth count →
    after.kept.items ≡ before.kept.items → after.least ≡ before.least → Tracks all (take depth before.counts.items ++ count ∷ []) rest after.tally → StandsAt all (depth + 1) rest after
child_stands all depth count rest before after stands below e f g tracks =
    let child : take (depth + 1) after.counts.items ≡ take depth before.counts.items ++ count ∷ [] = ap (take (depth + 1)) e ∙ placed depth count before.counts.items (omega (arith, stands.places)) in
    record {
      places = ap length e ∙ length-set before.counts.items depth count ∙ stands.places;
      kept_places = ap length f ∙ stands.kept_places;
      within = omega (arith, below);
      tally = subst (λ front. Tracks all front rest after.tally) (sym child) tracks;
      least = subst (λ kept. IsLeastCost all after.least kept) (sym f) (subst (λ least. IsLeastCost all least before.kept.items) (sym g) stands.least);
    }

-- if a search that is back at a child gives back what it took there, it is at the front again
pub parent_stands : (all : Classes) (depth : ℕ) (rest rest' : List Class) (before child after : Search) → StandsAt all depth rest before → StandsAt all (depth + 1) rest' child →
    take depth child.counts.items ≡ take depth before.counts.items → after.counts.items ≡ child.counts.items → after.kept.items ≡ child.kept.items → after.least ≡ child.least →
    Tracks all (take depth child.counts.items) rest after.tally → StandsAt all depth rest after
parent_stands all depth rest rest' before child after stands there same e f g tracks = record {
  places = ap length e ∙ there.places;
  kept_places = ap length f ∙ there.kept_places;
  within = stands.within;
  tally = subst (λ xs. Tracks all (take depth xs) rest after.tally) (sym e) tracks;
  least = subst (λ kept. IsLeastCost all after.least kept) (sym f) (subst (λ least. IsLeastCost all least child.kept.items) (sym g) there.least);
}

-- if a search keeps the front of all classes that it is at, it is still at this front, and its `least` is the front's cost
pub stands_kept : (all : Classes) (depth : ℕ) (rest : List Class) (before after : Search) (least : ℕ) → StandsAt all depth rest before → depth ≡ length all.classes → after.counts.items ≡ before.counts.items →
    after.kept.items ≡ before.counts.items → after.least ≡ Some least → least ≡ sure_cost all (take depth before.counts.items) → after.tally ≡ before.tally → StandsAt all depth rest after
stands_kept all depth rest before after least stands whole e f g cost_is h =
    let front : take depth before.counts.items ≡ before.counts.items = all_taken before.counts.items depth (omega (arith, whole, stands.places)) in
    let same : least ≡ cost all after.kept.items =
    cost_is ∙ (ap (sure_cost all) front ∙ (whole_cost all before.counts.items stands.places ∙ ap (cost all) (sym f))) in
    record {
      places = ap length e ∙ stands.places;
      kept_places = ap length f ∙ stands.places;
      within = stands.within;
      tally = subst (λ xs. Tracks all (take depth xs) rest after.tally) (sym e) (subst (Tracks all (take depth before.counts.items) rest) (sym h) stands.tally);
      least = subst (λ found. IsLeastCost all found after.kept.items) (sym g) same;
    }

pub kept_now : (all : Classes) (depth : ℕ) (rest : List Class) (before after : Search) (least : ℕ) → StandsAt all depth rest before → depth ≡ length all.classes →
    after.kept.items ≡ before.counts.items → after.least ≡ Some least → after.visits ≡ before.visits → search_of after ≡ record { visits = before.visits; kept = Some (take depth before.counts.items) }
kept_now all depth rest before after least stands whole f g v =
    let front : take depth before.counts.items ≡ before.counts.items = all_taken before.counts.items depth (omega (arith, whole, stands.places)) in
    ap (λ n. told n (kept_of after.least after.kept.items)) v ∙ (ap (λ found. told before.visits (kept_of found after.kept.items)) g ∙ ap (λ (xs : List ℕ). told before.visits (Some xs)) (f ∙ sym front))
  where
    told : ℕ → Option (List ℕ) → CostSearch
    told visits kept = record { visits = visits; kept = kept }

-- the front's sure cost is below the least cost exactly if the front may cost less than the kept counts
pub less_is : (all : Classes) (found : Option ℕ) (kept front : List ℕ) (least sure : ℕ) → found ≡ Some least → IsLeastCost all found kept → sure ≡ sure_cost all front → ltb sure least ≡ may_cost_less all (kept_of found kept) front
less_is all None kept front least sure e is s = absurd cc
less_is all (Some n) kept front least sure e is s =
    let same : n ≡ least = cc in ap (λ x. ltb x least) s ∙ ap (ltb (sure_cost all front)) (sym same ∙ is)
