-- One step of the search. The contracts of src/searching.rt cite it.
use Rattle.std.specs.Prelude.{◌≡◌, ◌≤◌, ◌<◌, ◌+◌, ℕ, if◌then◌else◌, Bool, true, false, List, [], ◌∷◌, ◌++◌, length, take, drop, filter, map, Result, Ok, Err, Some, None}
use Rattle.define_checks.specs.Visits.{enter_above}
use Rattle.define_rows.specs.Row.{Row}
use Rattle.define_searches.specs.Classes.{Class, Classes}
use Rattle.define_searches.specs.Compositions.{counts_of}
use Rattle.define_searches.specs.Fronts.{is_live_above, is_reachable}
use Rattle.define_searches.specs.Visits.{Search as Due, one_by_one}
use Rattle.define_searches.specs.Front.{AreWithin}
use Rattle.check_search.specs.Front.{Tracks}
use Rattle.check_search.specs.Weights.{Weighs, WeighEach}
use Rattle.check_search.specs.declared.searching.BudgetSpent.{BudgetSpent}
use Rattle.check_search.specs.declared.searching.Search.{Search}

-- the search is at a reachable front of the first `depth` classes, and its tally counts the classes in `later` as still to come
pub record StandsAt (all : Classes) (closed : List Row) (row : Row) (depth : ℕ) (later : List Class) (search : Search) : Type 0 where
  pub places : length search.counts.items ≡ length all.classes
  pub within : depth ≤ length all.classes
  pub live : is_reachable all (take depth search.counts.items) ≡ true
  pub counts : AreWithin all (take depth search.counts.items)
  pub tally : Tracks all (take depth search.counts.items) later search.tally
  pub weights : Weighs all row (take depth search.counts.items) search.weights
  pub closed_rows : WeighEach all closed (take depth search.counts.items) search.closed.items

-- a search is about to enter the empty front, live or not
pub record Begins (all : Classes) (closed : List Row) (row : Row) (search : Search) : Type 0 where
  pub places : length search.counts.items ≡ length all.classes
  pub tally : Tracks all [] all.classes search.tally
  pub weights : Weighs all row [] search.weights
  pub closed_rows : WeighEach all closed [] search.closed.items

-- the search of a child if it is live, else no visit
abbrev pub child_above : Classes → List Row → Row → List Class → List ℕ → Due
child_above all closed row later child = if is_live_above all closed row row.b child then enter_above all closed row later child else record { visits = 0; found = None }

-- takes the children of a front whose count of the next class is one of `counts`, and searches the live ones one after the other
abbrev pub children_above : Classes → List Row → Row → List Class → List ℕ → List ℕ → Due
children_above all closed row later front counts =
    one_by_one (map (λ child. enter_above all closed row later child) (filter (is_live_above all closed row row.b) (map (λ c. front ++ c ∷ []) counts)))

-- the counts that a panel may take of the first class of the list; none if the list is empty
abbrev pub counts_of_first : List Class → List ℕ
counts_of_first [] = []
counts_of_first (class ∷ later) = counts_of class

-- the counts that a panel may take of class `depth`
abbrev pub counts_at : Classes → ℕ → List ℕ
counts_at all depth = counts_of_first (drop depth all.classes)

-- a step from `front` with `left` visits left. It finds what the search `due` finds, in as many visits, or fails because `due` makes more
-- than `left`. If nothing is found, the search is at `front` again
abbrev pub StepsFrom : Classes → List Row → Row → ℕ → List Class → Due → ℕ → List ℕ → Result Bool BudgetSpent → Search → Type 0
StepsFrom all closed row depth later due left front (Ok true) after = (left ≡ after.left + due.visits) × (due.found ≡ Some after.counts.items)
StepsFrom all closed row depth later due left front (Ok false) after =
    (left ≡ after.left + due.visits) × (due.found ≡ None) × (take depth after.counts.items ≡ front) × StandsAt all closed row depth later after
StepsFrom all closed row depth later due left front (Err spent) after = left < due.visits

abbrev pub Steps : Classes → List Row → Row → ℕ → List Class → Due → Search → Result Bool BudgetSpent → Search → Type 0
Steps all closed row depth later due before result after = StepsFrom all closed row depth later due before.left (take depth before.counts.items) result after

-- a whole search with `left` visits left: it finds what `due` finds, in as many visits, or fails because `due` makes more than `left`
abbrev pub Finds : Due → ℕ → Result Bool BudgetSpent → Search → Type 0
Finds due left (Ok true) after = (left ≡ after.left + due.visits) × (due.found ≡ Some after.counts.items)
Finds due left (Ok false) after = (left ≡ after.left + due.visits) × (due.found ≡ None)
Finds due left (Err spent) after = left < due.visits
