-- How the search for the best composition goes through the children of a front, one after the other.
use Rattle.std.proofs.Common.{◌≡◌, ℕ, zero, suc, ◌+◌, ◌-◌, ◌≤◌, ◌<◌, true, false, cond, ◌&&◌, List, [], ◌∷◌, ◌++◌, length, take, drop, set, filter, None, Result, Ok, Err, refl, sym, ap, ◌∙◌, arith, subst}
use Rattle.std.specs.Prelude.{IsErr, int_le, int_lt}
use Rattle.std.specs.List.{list_all}
use Rattle.std.proofs.lemmas.Bool.{false≢true, and_parts, and_from}
use Rattle.std.proofs.lemmas.List.{length-set}
use Rattle.define_rows.specs.Row.{Row}
use Rattle.define_searches.specs.Classes.{Class, Classes}
use Rattle.define_searches.specs.Compositions.{counts_of}
use Rattle.define_searches.specs.Fronts.{is_reachable, is_live_above, optimistic, HaveEntries, HaveReach}
use Rattle.define_searches.specs.Visits.{Pricing, best_search, enter_best}
use Rattle.panel_search.specs.Front.{Tracks}
use Rattle.panel_search.specs.Pricing.{BeginsAt, StandsAt, Moves, children_best}
use Rattle.define_searches.specs.Front.{CanTake, AreWithin, Stands}
use Rattle.panel_search.specs.Steps.{counts_below}
use Rattle.define_searches.specs.Weights.{AreNarrow, EachNarrow}
use Rattle.panel_search.specs.Weights.{Weighs, WeighEach}
use Rattle.panel_search.specs.declared.searching.BudgetSpent.{BudgetSpent}
use Rattle.panel_search.specs.declared.pricing.BestSearch.{BestSearch}
use Rattle.define_searches.proofs.ClosedRows.{each_back}
use Rattle.define_searches.proofs.Tracking.{comes_next}
use Rattle.panel_search.proofs.Ranges.{LiveBetween, below_next, below_none, live_counts}
use Rattle.define_searches.proofs.Fronts.{within_more, placed, front_length}
use Rattle.define_searches.proofs.WeightLaws.{weighs_back}
use Rattle.define_searches.specs.Below.{child_best, search_from}

-- ---- visits only grow

child_more : (all : Classes) (closed : List Row) (row : Row) (later : List Class) (child : List ℕ) (now : Pricing) → ((front : List ℕ) (now : Pricing) → now.visits ≤ (enter_best all closed row later front now).visits) →
    now.visits ≤ (child_best all closed row later child now).visits
child_more all closed row later child now h =
    let enters = h child now in
    elim (is_live_above all closed row now.floor child) as (λ b. now.visits ≤ (cond b (enter_best all closed row later child now) now).visits) [
      | true ↦ enters
      | false ↦ omega arith
    ]

children_more : (all : Classes) (closed : List Row) (row : Row) (later : List Class) (front counts : List ℕ) (now : Pricing) → ((front : List ℕ) (now : Pricing) → now.visits ≤ (enter_best all closed row later front now).visits) →
    now.visits ≤ (children_best all closed row later front counts now).visits
children_more all closed row later front [] now h = omega arith
children_more all closed row later front (c ∷ counts) now h =
    let one = child_more all closed row later (front ++ c ∷ []) now h in
    let rest = children_more all closed row later front counts (child_best all closed row later (front ++ c ∷ []) now) h in omega arith

pub enter_more : (all : Classes) (closed : List Row) (row : Row) (later : List Class) (front : List ℕ) (now : Pricing) → now.visits + 1 ≤ (enter_best all closed row later front now).visits
enter_more all closed row [] front now = omega arith
enter_more all closed row (class ∷ later) front now =
    children_more all closed row later front (counts_of class) (record now { visits = now.visits + 1 }) (λ f n. let more = enter_more all closed row later f n in omega arith)

enter_no_less : (all : Classes) (closed : List Row) (row : Row) (later : List Class) (front : List ℕ) (now : Pricing) → now.visits ≤ (enter_best all closed row later front now).visits
enter_no_less all closed row later front now = let more = enter_more all closed row later front now in omega arith

-- ---- from the empty front

-- if a search from the empty front makes no visit, the whole search counts one and keeps nothing
pub none_entered : (all : Classes) (closed : List Row) (row : Row) → (search_from all closed row [] row.b).visits ≡ 0 → best_search all closed row ≡ record { visits = 1; floor = row.b; kept = None }
none_entered all closed row none =
    let begun : Pricing = record { visits = 0; floor = row.b; kept = None } in
    let more = enter_more all closed row all.classes [] begun in
    (elim (is_live_above all closed row row.b []) as (λ b. (cond b (enter_best all closed row all.classes [] begun) begun).visits ≡ 0 →
    cond b (enter_best all closed row all.classes [] begun) (record { visits = 1; floor = row.b; kept = None }) ≡ record { visits = 1; floor = row.b; kept = None }) [
      | true ↦ λ e. absurd (omega (arith, e, more))
      | false ↦ λ e. refl
    ]) none

-- ---- the children of a front

abbrev pub child_at : Classes → List Row → Row → ℕ → List ℕ → ℕ → Pricing → Pricing
child_at all closed row depth front count now = child_best all closed row (drop (depth + 1) all.classes) (front ++ count ∷ []) now

abbrev pub children_within : Classes → List Row → Row → ℕ → List ℕ → ℕ → ℕ → Pricing → Pricing
children_within all closed row depth front low end now = children_best all closed row (drop (depth + 1) all.classes) front (counts_below low end) now

-- if `end` is at most `low`, no child is searched
pub children_none : (all : Classes) (closed : List Row) (row : Row) (depth : ℕ) (front : List ℕ) (low end : ℕ) (now : Pricing) → end ≤ low → children_within all closed row depth front low end now ≡ now
children_none all closed row depth front low end now l = ap (λ counts. children_best all closed row (drop (depth + 1) all.classes) front counts now) (below_none low end l)

-- if `low` is below `end`, the children with counts in `low..end` are searched from the greatest count down: first the child with
-- `end - 1`, then those with smaller counts
pub children_next : (all : Classes) (closed : List Row) (row : Row) (depth : ℕ) (front : List ℕ) (low end : ℕ) (now : Pricing) → low < end →
    children_within all closed row depth front low end now ≡ children_within all closed row depth front low (end - 1) (child_at all closed row depth front (end - 1) now)
children_next all closed row depth front low end now l = ap (λ counts. children_best all closed row (drop (depth + 1) all.classes) front counts now) (below_next low end l)

pub child_within : (all : Classes) (closed : List Row) (row : Row) (depth : ℕ) (front : List ℕ) (low end : ℕ) (now : Pricing) → low < end →
    (child_at all closed row depth front (end - 1) now).visits ≤ (children_within all closed row depth front low end now).visits
child_within all closed row depth front low end now l =
    let same = children_next all closed row depth front low end now l in
    rw same (children_more all closed row (drop (depth + 1) all.classes) front (counts_below low (end - 1)) (child_at all closed row depth front (end - 1) now) (enter_no_less all closed row (drop (depth + 1) all.classes)))

-- the search of the children is the same if the counts of the children that aren't reachable are left out
passed_over : (all : Classes) (closed : List Row) (row : Row) (later : List Class) (front counts : List ℕ) (now : Pricing) →
    children_best all closed row later front counts now ≡ children_best all closed row later front (filter (λ c. is_reachable all (front ++ c ∷ [])) counts) now
passed_over all closed row later front [] now = refl
passed_over all closed row later front (c ∷ counts) now =
    let child = front ++ c ∷ [] in
    let others = filter (λ c. is_reachable all (front ++ c ∷ [])) counts in
    let weighs = list_all (λ r. int_le r.b (optimistic all r child)) closed in
    let above = int_lt now.floor (optimistic all row child) in
    (elim (is_reachable all child) as (λ b. is_reachable all child ≡ b → children_best all closed row later front counts (child_best all closed row later child now) ≡ children_best all closed row later front (cond b (c ∷ others) others) now) [
      | true ↦ λ e. passed_over all closed row later front counts (child_best all closed row later child now)
      | false ↦ λ e. ap (λ b. children_best all closed row later front counts (cond (b && weighs && above) (enter_best all closed row later child now) now)) e
          ∙ passed_over all closed row later front counts now
    ]) refl

-- if exactly the counts in `low..end` of the next class make reachable children of `front`, entering `front` counts one visit and searches
-- the children with these counts
pub enter_children : (all : Classes) (closed : List Row) (row : Row) (depth : ℕ) (class : Class) (front : List ℕ) (low end : ℕ) (now : Pricing) → Stands all depth class → class.least ≤ class.most → LiveBetween all front class low end →
    enter_best all closed row (drop depth all.classes) front now ≡ children_within all closed row depth front low end (record now { visits = now.visits + 1 })
enter_children all closed row depth class front low end now stands order live =
    ap (λ later. enter_best all closed row later front now) (comes_next all depth class stands)
    ∙ passed_over all closed row (drop (depth + 1) all.classes) front (counts_of class) (record now { visits = now.visits + 1 })
    ∙ ap (λ counts. children_best all closed row (drop (depth + 1) all.classes) front counts (record now { visits = now.visits + 1 })) (live_counts all front class low end order live.inside live.outside)

-- ---- what the contracts of the code need

pub moves_err : (all : Classes) (closed : List Row) (row : Row) (depth : ℕ) (rest : List Class) (due : Pricing) (front : List ℕ) (nodes : ℕ) (result : Result (Unit {0}) BudgetSpent) (after : BestSearch) →
    IsErr result → nodes < due.visits → Moves all closed row depth rest due front nodes result after
moves_err all closed row depth rest due front nodes (Ok done) after e lt = absurd (false≢true e)
moves_err all closed row depth rest due front nodes (Err spent) after e lt = lt

pub moves_same : (all : Classes) (closed : List Row) (row : Row) (depth : ℕ) (rest : List Class) (due due' : Pricing) (front front' : List ℕ) (nodes nodes' : ℕ) (result : Result (Unit {0}) BudgetSpent) (after : BestSearch) →
    due ≡ due' → front ≡ front' → nodes ≡ nodes' → Moves all closed row depth rest due front nodes result after → Moves all closed row depth rest due' front' nodes' result after
moves_same all closed row depth rest due due' front front' nodes nodes' result after e f g moves =
    subst (λ d. Moves all closed row depth rest d front' nodes' result after) e
    (subst (λ x. Moves all closed row depth rest due x nodes' result after) f
    (subst (λ n. Moves all closed row depth rest due front n result after) g moves))

-- ---- where a search is

-- if only the tally changes, and it still tracks the same front, now with the classes `rest'` to come, the search is at the same front
pub stands_with : (all : Classes) (closed : List Row) (row : Row) (depth : ℕ) (rest rest' : List Class) (before after : BestSearch) → StandsAt all closed row depth rest before → after.counts.items ≡ before.counts.items → after.kept.items ≡ before.kept.items →
    after.priced ≡ before.priced → after.closed.items ≡ before.closed.items → Tracks all (take depth before.counts.items) rest' after.tally → StandsAt all closed row depth rest' after
stands_with all closed row depth rest rest' before after stands e f g h tracks = record {
  places = ap length e ∙ stands.places;
  kept_places = ap length f ∙ stands.kept_places;
  within = stands.within;
  live = ap (λ xs. is_reachable all (take depth xs)) e ∙ stands.live;
  counts = subst (λ xs. AreWithin all (take depth xs)) (sym e) stands.counts;
  tally = subst (λ xs. Tracks all (take depth xs) rest' after.tally) (sym e) tracks;
  priced = subst (λ xs. Weighs all row (take depth xs) after.priced) (sym e) (subst (Weighs all row (take depth before.counts.items)) (sym g) stands.priced);
  closed_rows = subst (λ xs. WeighEach all closed (take depth xs) after.closed.items) (sym e) (subst (WeighEach all closed (take depth before.counts.items)) (sym h) stands.closed_rows);
}

first_of : (front rest : List ℕ) (n : ℕ) → length front ≤ n → take (length front) (take n (front ++ rest)) ≡ front
first_of [] rest n l = refl
first_of (c ∷ front) rest zero l = absurd (omega arith)
first_of (c ∷ front) rest (suc n) l = ap (λ (xs : List ℕ). c ∷ xs) (first_of front rest n (omega arith))

-- if `front` is written over the first places of `items`, the first `length front` places hold it
pub written_first : (front given items : List ℕ) (n : ℕ) → given ≡ front → length front ≤ n → take (length front) (take n (given ++ drop (length given) items)) ≡ front
written_first front given items n e l = subst (λ xs. take (length front) (take n (xs ++ drop (length xs) items)) ≡ front) (sym e) (first_of front (drop (length front) items) n l)

-- if a search has the counts, the tally and the weights of `front`, it is about to enter `front`
pub begins_at : (all : Classes) (closed : List Row) (row : Row) (front : List ℕ) (search : BestSearch) → length search.counts.items ≡ length all.classes → length search.kept.items ≡ length all.classes → length front ≤ length all.classes →
    take (length front) search.counts.items ≡ front → AreWithin all front → Tracks all front (drop (length front) all.classes) search.tally → Weighs all row front search.priced → WeighEach all closed front search.closed.items →
    BeginsAt all closed row (length front) search
begins_at all closed row front search places kept within e counts tally priced closed_rows = record {
  places = places;
  kept_places = kept;
  within = within;
  counts = subst (AreWithin all) (sym e) counts;
  tally = subst (λ f. Tracks all f (drop (length front) all.classes) search.tally) (sym e) tally;
  priced = subst (λ f. Weighs all row f search.priced) (sym e) priced;
  closed_rows = subst (λ f. WeighEach all closed f search.closed.items) (sym e) closed_rows;
}

-- if a search at a front takes `count` of the next class, and this child is reachable, the search is then at the child
pub child_stands : (all : Classes) (closed : List Row) (row : Row) (depth count : ℕ) (rest : List Class) (before after : BestSearch) → StandsAt all closed row depth rest before → depth < length all.classes → CanTake all depth count →
    is_reachable all (take depth before.counts.items ++ count ∷ []) ≡ true → after.counts.items ≡ set before.counts.items depth count → length after.kept.items ≡ length all.classes →
    Tracks all (take depth before.counts.items ++ count ∷ []) rest after.tally → Weighs all row (take depth before.counts.items ++ count ∷ []) after.priced →
    WeighEach all closed (take depth before.counts.items ++ count ∷ []) after.closed.items → StandsAt all closed row (depth + 1) rest after
child_stands all closed row depth count rest before after stands below can live e kept tracks priced closed_rows =
    let child : take (depth + 1) after.counts.items ≡ take depth before.counts.items ++ count ∷ [] = ap (take (depth + 1)) e ∙ placed depth count before.counts.items (omega (arith, stands.places)) in
    record {
      places = ap length e ∙ length-set before.counts.items depth count ∙ stands.places;
      kept_places = kept;
      within = omega arith;
      live = ap (is_reachable all) child ∙ live;
      counts = subst (AreWithin all) (sym child) (within_more all (take depth before.counts.items) depth count (front_length depth before.counts.items (length all.classes) stands.places stands.within) below can stands.counts);
      tally = subst (λ f. Tracks all f rest after.tally) (sym child) tracks;
      priced = subst (λ f. Weighs all row f after.priced) (sym child) priced;
      closed_rows = subst (λ f. WeighEach all closed f after.closed.items) (sym child) closed_rows;
    }

-- if a search was at a front and then at a child of this front, and only its tally has changed since, so that it tracks the front, the
-- search is at the front again
pub parent_stands : (all : Classes) (closed : List Row) (row : Row) (depth count : ℕ) (rest : List Class) (before child after : BestSearch) → StandsAt all closed row depth rest before → StandsAt all closed row (depth + 1) rest child →
    take (depth + 1) child.counts.items ≡ take depth before.counts.items ++ count ∷ [] → take depth child.counts.items ≡ take depth before.counts.items →
    after.counts.items ≡ child.counts.items → after.kept.items ≡ child.kept.items → after.priced ≡ child.priced → after.closed.items ≡ child.closed.items →
    Tracks all (take depth child.counts.items) rest after.tally → StandsAt all closed row depth rest after
parent_stands all closed row depth count rest before child after stands below e same f g h i tracks =
    let front : take depth after.counts.items ≡ take depth before.counts.items = ap (take depth) f ∙ same in
    let front_before = take depth before.counts.items in
    record {
      places = ap length f ∙ below.places;
      kept_places = ap length g ∙ below.kept_places;
      within = stands.within;
      live = ap (is_reachable all) front ∙ stands.live;
      counts = subst (AreWithin all) (sym front) stands.counts;
      tally = subst (λ xs. Tracks all (take depth xs) rest after.tally) (sym f) tracks;
      priced = subst (Weighs all row (take depth after.counts.items)) (sym h) (weighs_back all row front_before _ _ count _ e front below.priced);
      closed_rows = subst (WeighEach all closed (take depth after.counts.items)) (sym i) (each_back all closed front_before _ _ count _ e front below.closed_rows);
    }

-- if a child is reachable, and its optimistic weight is at least the right side in each closed row and above the floor in `row`, to search
-- the child is to enter it
pub child_due : (all : Classes) (closed : List Row) (row : Row) (later : List Class) (child : List ℕ) (now : Pricing) → is_reachable all child ≡ true →
    (list_all (λ r. int_le r.b (optimistic all r child)) closed && int_lt now.floor (optimistic all row child)) ≡ true → child_best all closed row later child now ≡ enter_best all closed row later child now
child_due all closed row later child now live weighs =
    let parts = and_parts (list_all (λ r. int_le r.b (optimistic all r child)) closed) (int_lt now.floor (optimistic all row child)) weighs in
    let above = and_from (is_reachable all child && list_all (λ r. int_le r.b (optimistic all r child)) closed) (int_lt now.floor (optimistic all row child))
    (and_from (is_reachable all child) (list_all (λ r. int_le r.b (optimistic all r child)) closed) live parts.0) parts.1 in
    ap (λ b. cond b (enter_best all closed row later child now) now) above

-- ---- rows whose weights fit 128 bits

pub each_narrow : (all : Classes) (rows : List Row) → HaveEntries all rows → HaveReach all rows → EachNarrow all rows
each_narrow all [] h k i row e = cc
each_narrow all (r ∷ rows) h k zero row e =
    let is : r ≡ row = cc in subst (λ (r : Row). AreNarrow all r.a) is (record { one_each = h.0; narrow = let reach = k.0 in omega arith })
each_narrow all (r ∷ rows) h k (suc i) row e = each_narrow all rows h.1 k.1 i row e
