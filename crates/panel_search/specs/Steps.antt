-- One step of the search for the first composition. The contracts of `searching` and `pricing` cite it.
use Rattle.std.specs.Prelude.{◌≡◌, ◌≤◌, ◌<◌, ◌+◌, ℕ, zero, suc, nat_le, if◌then◌else◌, Bool, true, false, List, [], ◌∷◌, ◌++◌, length, take, filter, map, Result, Ok, Err, Some, None}
use Rattle.define_searches.specs.Classes.{Class, Classes}
use Rattle.define_searches.specs.Fronts.{is_reachable}
use Rattle.define_searches.specs.Visits.{Search as Due, one_by_one, enter_first}
use Rattle.panel_search.specs.Front.{Tracks}
use Rattle.panel_search.specs.declared.searching.BudgetSpent.{BudgetSpent}
use Rattle.panel_search.specs.declared.searching.Search.{Search}

-- a search is at a reachable front of the first `depth` classes, and its tally has the classes `later` still to come
pub record StandsAt (all : Classes) (depth : ℕ) (later : List Class) (search : Search) : Type 0 where
  pub places : length search.counts.items ≡ length all.classes
  pub within : depth ≤ length all.classes
  pub live : is_reachable all (take depth search.counts.items) ≡ true
  pub tally : Tracks all (take depth search.counts.items) later search.tally

-- the search of a child if it is reachable, else no visit
abbrev pub child_first : Classes → List Class → List ℕ → Due
child_first all later child = if is_reachable all child then enter_first all later child else record { visits = 0; found = None }

-- the search of the children of `front` with each of `counts` of the next class, one after the other
abbrev pub children_first : Classes → List Class → List ℕ → List ℕ → Due
children_first all later front counts = one_by_one (map (λ child. enter_first all later child) (filter (is_reachable all) (map (λ c. front ++ c ∷ []) counts)))

-- the counts in `low..end`, the greatest first
abbrev pub counts_below : ℕ → ℕ → List ℕ
counts_below low zero = []
counts_below low (suc n) = if nat_le low n then n ∷ counts_below low n else []

-- each child of `front` with a count in `low..end` is reachable
abbrev pub LiveWithin : Classes → List ℕ → ℕ → ℕ → Type 0
LiveWithin all front low end = (count : ℕ) → low ≤ count → count < end → is_reachable all (front ++ count ∷ []) ≡ true

-- a step from a front with `left` visits left: it finds what the search of the definition, `due`, finds, with the same number of visits; or
-- `due` needs more visits than are left. If the step finds nothing, the search is at the same front again
abbrev pub StepsFrom : Classes → ℕ → List Class → Due → ℕ → List ℕ → Result Bool BudgetSpent → Search → Type 0
StepsFrom all depth later due left front (Ok true) after = (left ≡ after.left + due.visits) × (due.found ≡ Some after.counts.items)
StepsFrom all depth later due left front (Ok false) after =
    (left ≡ after.left + due.visits) × (due.found ≡ None) × (take depth after.counts.items ≡ front) × StandsAt all depth later after
StepsFrom all depth later due left front (Err spent) after = left < due.visits

abbrev pub Steps : Classes → ℕ → List Class → Due → Search → Result Bool BudgetSpent → Search → Type 0
Steps all depth later due before result after = StepsFrom all depth later due before.left (take depth before.counts.items) result after

-- a whole search with `left` visits left: it finds what the search of the definition, `due`, finds, with the same number of visits; or
-- `due` needs more visits than are left
abbrev pub Finds : Due → ℕ → Result Bool BudgetSpent → Search → Type 0
Finds due left (Ok true) after = (left ≡ after.left + due.visits) × (due.found ≡ Some after.counts.items)
Finds due left (Ok false) after = (left ≡ after.left + due.visits) × (due.found ≡ None)
Finds due left (Err spent) after = left < due.visits
