-- One step of the search for the best composition. The contracts of `pricing` cite it.
use Rattle.std.specs.Prelude.{◌≡◌, ◌≤◌, ◌<◌, ℕ, if◌then◌else◌, true, List, [], ◌∷◌, ◌++◌, length, take, drop, fold, Result, Ok, Err, Some, None}
use Rattle.define_rows.specs.Row.{Row}
use Rattle.define_searches.specs.Classes.{Class, Classes}
use Rattle.define_searches.specs.Fronts.{is_reachable}
use Rattle.define_searches.specs.Visits.{Pricing}
use Rattle.panel_search.specs.Front.{Tracks}
use Rattle.panel_search.specs.Weights.{Weighs, WeighEach}
use Rattle.panel_search.specs.declared.searching.BudgetSpent.{BudgetSpent}
use Rattle.panel_search.specs.declared.pricing.BestSearch.{BestSearch}
use Rattle.define_searches.specs.Front.{AreWithin, CanTake}
use Rattle.define_searches.specs.Below.{child_best}

-- a search is at a reachable front of the first `depth` classes, and its tally has the classes `later` still to come
pub record StandsAt (all : Classes) (closed : List Row) (row : Row) (depth : ℕ) (later : List Class) (search : BestSearch) : Type 0 where
  pub places : length search.counts.items ≡ length all.classes
  pub kept_places : length search.kept.items ≡ length all.classes
  pub within : depth ≤ length all.classes
  pub live : is_reachable all (take depth search.counts.items) ≡ true
  pub counts : AreWithin all (take depth search.counts.items)
  pub tally : Tracks all (take depth search.counts.items) later search.tally
  pub priced : Weighs all row (take depth search.counts.items) search.priced
  pub closed_rows : WeighEach all closed (take depth search.counts.items) search.closed.items

-- a search is about to enter the front of the first `depth` classes, which may be reachable or not
pub record BeginsAt (all : Classes) (closed : List Row) (row : Row) (depth : ℕ) (search : BestSearch) : Type 0 where
  pub places : length search.counts.items ≡ length all.classes
  pub kept_places : length search.kept.items ≡ length all.classes
  pub within : depth ≤ length all.classes
  pub counts : AreWithin all (take depth search.counts.items)
  pub tally : Tracks all (take depth search.counts.items) (drop depth all.classes) search.tally
  pub priced : Weighs all row (take depth search.counts.items) search.priced
  pub closed_rows : WeighEach all closed (take depth search.counts.items) search.closed.items

-- a search's visits, its floor, and what it has kept
abbrev pub pricing_of : BestSearch → Pricing
pricing_of search = record { visits = search.visits; floor = search.floor; kept = if search.is_found then Some search.kept.items else None }

-- each count in `low..end` can be taken of the class at place `depth`
abbrev pub CanTakeWithin : Classes → ℕ → ℕ → ℕ → Type 0
CanTakeWithin all depth low end = (count : ℕ) → low ≤ count → count < end → CanTake all depth count

-- what `now` becomes when the children of `front` with each of `counts` of the next class are searched, in this order
abbrev pub children_best : Classes → List Row → Row → List Class → List ℕ → List ℕ → Pricing → Pricing
children_best all closed row later front counts now = fold (λ now c. child_best all closed row later (front ++ c ∷ []) now) now counts

-- the step does what the definition says (`due`) and returns to the same front, or the definition needs more visits than the budget `nodes`
abbrev pub Moves : Classes → List Row → Row → ℕ → List Class → Pricing → List ℕ → ℕ → Result (Unit {0}) BudgetSpent → BestSearch → Type 0
Moves all closed row depth later due front nodes (Ok done) after =
    (pricing_of after ≡ due) × (take depth after.counts.items ≡ front) × (after.nodes ≡ nodes) × (due.visits ≤ nodes) × StandsAt all closed row depth later after
Moves all closed row depth later due front nodes (Err spent) after = nodes < due.visits

-- the whole search does what the definition says (`due`), or the definition needs more visits than the budget `nodes`
abbrev pub EndsWithin : Pricing → ℕ → Result (Unit {0}) BudgetSpent → BestSearch → Type 0
EndsWithin due nodes (Ok done) after = (pricing_of after ≡ due) × (due.visits ≤ nodes)
EndsWithin due nodes (Err spent) after = nodes < due.visits
