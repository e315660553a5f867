-- One step of the search for the cheapest team, and what the search answers. The contracts of `searching` cite it.
use Rattle.std.specs.Prelude.{◌≡◌, ◌≤◌, ◌<◌, ℕ, if◌then◌else◌, List, [], ◌∷◌, ◌++◌, length, take, fold, Option, Some, None, Result, Ok, Err}
use Rattle.define_quotas.specs.Costs.{cost}
use Rattle.define_quotas.specs.CostSearch.{CostSearch, enter_cheapest, is_live_below}
use Rattle.define_searches.specs.Classes.{Class, Classes}
use Rattle.quota_loosen.specs.Front.{Tracks}
use Rattle.quota_loosen.specs.declared.searching.BudgetSpent.{BudgetSpent}
use Rattle.quota_loosen.specs.declared.searching.LoosenStop.{LoosenStop}
use Rattle.quota_loosen.specs.declared.searching.LoosenStop.TheVariants.{Spent, OutOfMemory}
use Rattle.quota_loosen.specs.declared.searching.Search.{Search}

-- the counts that a search has kept: those in `counts` if it knows a least cost
abbrev pub kept_of : Option ℕ → List ℕ → Option (List ℕ)
kept_of None counts = None
kept_of (Some least) counts = Some counts

-- a search's visits, and what it has kept
abbrev pub search_of : Search → CostSearch
search_of search = record { visits = search.visits; kept = kept_of search.least search.kept.items }

-- if there is a least cost, it is what `counts` cost
abbrev pub IsLeastCost : Classes → Option ℕ → List ℕ → Type 0
IsLeastCost all None counts = Unit {0}
IsLeastCost all (Some least) counts = least ≡ cost all counts

-- a search is at a front of the first `depth` classes, and its tally has the classes `later` still to come
pub record StandsAt (all : Classes) (depth : ℕ) (later : List Class) (search : Search) : Type 0 where
  pub places : length search.counts.items ≡ length all.classes
  pub kept_places : length search.kept.items ≡ length all.classes
  pub within : depth ≤ length all.classes
  pub tally : Tracks all (take depth search.counts.items) later search.tally
  pub least : IsLeastCost all search.least search.kept.items

-- the search of a child if it is live, else no visit
abbrev pub child_cheapest : Classes → List Class → List ℕ → CostSearch → CostSearch
child_cheapest all later child now = if is_live_below all now.kept child then enter_cheapest all later child now else now

-- the search of the children of `front` with each of `counts` of the next class, one after the other
abbrev pub children_cheapest : Classes → List Class → List ℕ → List ℕ → CostSearch → CostSearch
children_cheapest all later front counts now = fold (λ now c. child_cheapest all later (front ++ c ∷ []) now) now counts

-- the step does what the definition says (`due`) and returns to the same front, or the definition needs more visits than the budget `nodes`
abbrev pub Moves : Classes → ℕ → List Class → CostSearch → List ℕ → ℕ → Result (Unit {0}) BudgetSpent → Search → Type 0
Moves all depth later due front nodes (Ok done) after =
    (search_of after ≡ due) × (take depth after.counts.items ≡ front) × (after.nodes ≡ nodes) × (due.visits ≤ nodes) × StandsAt all depth later after
Moves all depth later due front nodes (Err spent) after = nodes < due.visits

-- the whole search does what the definition says (`due`), or the definition needs more visits than the budget `nodes`
abbrev pub EndsWithin : Classes → CostSearch → ℕ → Result (Unit {0}) BudgetSpent → Search → Type 0
EndsWithin all due nodes (Ok done) after = (search_of after ≡ due) × (due.visits ≤ nodes) × IsLeastCost all after.least after.kept.items
EndsWithin all due nodes (Err spent) after = nodes < due.visits

-- the counts that the search kept, with what they cost; None if it kept none
abbrev pub IsKept : Classes → Option (List ℕ) → Option (List ℕ × ℕ) → Type 0
IsKept all kept None = kept ≡ None
IsKept all kept (Some (counts, least)) = (kept ≡ Some counts) × (least ≡ cost all counts)

-- what a search answers if its memory is allocated already: what it kept if its visits are at most `nodes`, else that the budget is spent
abbrev pub AnswersWithin : Classes → CostSearch → ℕ → Result (Option (List ℕ × ℕ)) BudgetSpent → Type 0
AnswersWithin all search nodes (Ok found) = (search.visits ≤ nodes) × IsKept all search.kept found
AnswersWithin all search nodes (Err spent) = nodes < search.visits

-- what a search answers: what it kept if its visits are at most `nodes`, else that the budget is spent; running out of memory is allowed
-- at any time
abbrev pub Answers : Classes → CostSearch → ℕ → Result (Option (List ℕ × ℕ)) LoosenStop → Type 0
Answers all search nodes (Ok found) = (search.visits ≤ nodes) × IsKept all search.kept found
Answers all search nodes (Err Spent) = nodes < search.visits
Answers all search nodes (Err OutOfMemory) = Unit {0}
