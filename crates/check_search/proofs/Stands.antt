-- The state of a search: at a front, at a child that it goes on to, and back at the front.
use Rattle.std.proofs.Common.{◌≡◌, ℕ, ◌+◌, ◌-◌, ◌<◌, true, ◌&&◌, List, [], ◌∷◌, ◌++◌, length, take, set, sym, ap, ◌∙◌, arith, subst}
use Rattle.std.specs.Prelude.{int_le, int_lt}
use Rattle.std.specs.List.{list_all}
use Rattle.std.proofs.lemmas.Bool.{and_parts, and_from}
use Rattle.std.proofs.lemmas.List.{length-set}
use Rattle.define_rows.specs.Row.{Row}
use Rattle.define_searches.specs.Classes.{Class, Classes}
use Rattle.define_searches.specs.Fronts.{is_reachable, is_live_above, optimistic, taken_by}
use Rattle.check_search.specs.Front.{Tracks}
use Rattle.check_search.specs.Steps.{Begins, StandsAt}
use Rattle.define_searches.specs.Front.{CanTake, AreWithin}
use Rattle.check_search.specs.Weights.{Weighs, WeighEach}
use Rattle.check_search.specs.declared.searching.Search.{Search}
use Rattle.define_searches.proofs.ClosedRows.{each_back}
use Rattle.define_searches.proofs.Fronts.{within_more, placed, front_length}
use Rattle.define_searches.proofs.WeightLaws.{weighs_back}
use Rattle.define_searches.proofs.FirstSearch.{taken_none}

-- If only the tally changes, and it then tracks the front with the classes `rest'` still to come, the search is still at the front.
pub stands_with : (all : Classes) (closed : List Row) (row : Row) (depth : ℕ) (rest rest' : List Class) (before after : Search) → StandsAt all closed row depth rest before → after.counts.items ≡ before.counts.items →
    after.weights ≡ before.weights → after.closed.items ≡ before.closed.items → Tracks all (take depth before.counts.items) rest' after.tally → StandsAt all closed row depth rest' after
stands_with all closed row depth rest rest' before after stands e g h tracks = record {
  places = ap length e ∙ stands.places;
  within = stands.within;
  live = ap (λ xs. is_reachable all (take depth xs)) e ∙ stands.live;
  counts = subst (λ xs. AreWithin all (take depth xs)) (sym e) stands.counts;
  tally = subst (λ xs. Tracks all (take depth xs) rest' after.tally) (sym e) tracks;
  weights = subst (λ xs. Weighs all row (take depth xs) after.weights) (sym e) (subst (Weighs all row (take depth before.counts.items)) (sym g) stands.weights);
  closed_rows = subst (λ xs. WeighEach all closed (take depth xs) after.closed.items) (sym e) (subst (WeighEach all closed (take depth before.counts.items)) (sym h) stands.closed_rows);
}

-- If the empty front is live, a search that begins is at this front.
pub begins_there : (all : Classes) (closed : List Row) (row : Row) (search : Search) → Begins all closed row search → is_live_above all closed row row.b [] ≡ true → StandsAt all closed row 0 all.classes search
begins_there all closed row search begins live =
    let parts = and_parts (is_reachable all [] && list_all (λ r. int_le r.b (optimistic all r [])) closed) (int_lt row.b (optimistic all row [])) live in
    record {
      places = begins.places;
      within = omega arith;
      live = (and_parts (is_reachable all []) (list_all (λ r. int_le r.b (optimistic all r [])) closed) parts.0).0;
      counts = λ t l. absurd (omega arith);
      tally = begins.tally;
      weights = begins.weights;
      closed_rows = begins.closed_rows;
    }

pub whole_lack : (all : Classes) (size : ℕ) → size ≡ all.size → size ≡ all.size - taken_by all []
whole_lack all size e = omega (arith, taken_none (λ class. true) all.classes)

-- the counts of a child are within their classes
pub child_within : (all : Classes) (closed : List Row) (row : Row) (depth count : ℕ) (rest : List Class) (search : Search) → StandsAt all closed row depth rest search → depth < length all.classes → CanTake all depth count →
    AreWithin all (take depth search.counts.items ++ count ∷ [])
child_within all closed row depth count rest search stands below can =
    within_more all (take depth search.counts.items) depth count (front_length depth search.counts.items (length all.classes) stands.places stands.within) below can stands.counts

-- If `count` of the next class is taken and the child is reachable, the search is at the child.
pub child_stands : (all : Classes) (closed : List Row) (row : Row) (depth count : ℕ) (rest : List Class) (before after : Search) → StandsAt all closed row depth rest before → depth < length all.classes → CanTake all depth count →
    is_reachable all (take depth before.counts.items ++ count ∷ []) ≡ true → after.counts.items ≡ set before.counts.items depth count →
    Tracks all (take depth before.counts.items ++ count ∷ []) rest after.tally → Weighs all row (take depth before.counts.items ++ count ∷ []) after.weights →
    WeighEach all closed (take depth before.counts.items ++ count ∷ []) after.closed.items → StandsAt all closed row (depth + 1) rest after
child_stands all closed row depth count rest before after stands below can live e tracks weights closed_rows =
    let child : take (depth + 1) after.counts.items ≡ take depth before.counts.items ++ count ∷ [] = ap (take (depth + 1)) e ∙ placed depth count before.counts.items (omega (arith, stands.places)) in
    record {
      places = ap length e ∙ length-set before.counts.items depth count ∙ stands.places;
      within = omega arith;
      live = ap (is_reachable all) child ∙ live;
      counts = subst (AreWithin all) (sym child) (child_within all closed row depth count rest before stands below can);
      tally = subst (λ f. Tracks all f rest after.tally) (sym child) tracks;
      weights = subst (λ f. Weighs all row f after.weights) (sym child) weights;
      closed_rows = subst (λ f. WeighEach all closed f after.closed.items) (sym child) closed_rows;
    }

-- If the child's count is given back, the search is at the front again.
pub parent_stands : (all : Classes) (closed : List Row) (row : Row) (depth count : ℕ) (rest : List Class) (before child after : Search) → StandsAt all closed row depth rest before → StandsAt all closed row (depth + 1) rest child →
    take (depth + 1) child.counts.items ≡ take depth before.counts.items ++ count ∷ [] → take depth child.counts.items ≡ take depth before.counts.items →
    after.counts.items ≡ child.counts.items → after.weights ≡ child.weights → after.closed.items ≡ child.closed.items →
    Tracks all (take depth child.counts.items) rest after.tally → StandsAt all closed row depth rest after
parent_stands all closed row depth count rest before child after stands below e same f h i tracks =
    let front : take depth after.counts.items ≡ take depth before.counts.items = ap (take depth) f ∙ same in
    let front_before = take depth before.counts.items in
    record {
      places = ap length f ∙ below.places;
      within = stands.within;
      live = ap (is_reachable all) front ∙ stands.live;
      counts = subst (AreWithin all) (sym front) stands.counts;
      tally = subst (λ xs. Tracks all (take depth xs) rest after.tally) (sym f) tracks;
      weights = subst (Weighs all row (take depth after.counts.items)) (sym h) (weighs_back all row front_before _ _ count _ e front below.weights);
      closed_rows = subst (WeighEach all closed (take depth after.counts.items)) (sym i) (each_back all closed front_before _ _ count _ e front below.closed_rows);
    }

-- a reachable child whose weights allow it is live
pub child_live : (all : Classes) (closed : List Row) (row : Row) (child : List ℕ) → is_reachable all child ≡ true →
    (list_all (λ r. int_le r.b (optimistic all r child)) closed && int_lt row.b (optimistic all row child)) ≡ true → is_live_above all closed row row.b child ≡ true
child_live all closed row child live weighs =
    let parts = and_parts (list_all (λ r. int_le r.b (optimistic all r child)) closed) (int_lt row.b (optimistic all row child)) weighs in
    and_from (is_reachable all child && list_all (λ r. int_le r.b (optimistic all r child)) closed) (int_lt row.b (optimistic all row child))
    (and_from (is_reachable all child) (list_all (λ r. int_le r.b (optimistic all r child)) closed) live parts.0) parts.1
