-- What a search by workers that share a bound answers. The contracts of `sharing` cite it, and so do those of the calls that price by it.
use Rattle.std.specs.Prelude.{◌≡◌, ◌≤◌, ◌<◌, ℕ, List, [], slice_index_or, Option, Result, Ok, Err}
use Rattle.define_searches.specs.Visits.{Pricing}
use Rattle.panel_search.specs.Pricers.{Priced}
use Rattle.panel_search.specs.Sharing.{AnswersShared, Exceeds, MayStand, Shares}
use Rattle.panel_search.specs.declared.searching.SearchStop.{SearchStop}
use Rattle.panel_search.specs.declared.searching.SearchStop.TheVariants.{Spent, OutOfMemory}
use Rattle.pricing_pool.specs.Outcomes.{Told, Wave}

-- What a search by workers that share a bound may answer. `best` is what is sought, and `due` the visits of a search that shares nothing. It
-- finds `best`, and counts at most `due` and at most `nodes` visits; or its budget is spent, only if `due` exceeds `nodes`. Memory may run out
-- at any time
abbrev pub AnswersSharing : Option (List ℕ) → ℕ → ℕ → Result (Option (List ℕ) × ℕ) SearchStop → Type 0
AnswersSharing best due nodes (Ok (found, visits)) = (found ≡ best) × (visits ≤ due) × (visits ≤ nodes)
AnswersSharing best due nodes (Err Spent) = nodes < due
AnswersSharing best due nodes (Err OutOfMemory) = Unit {0}

-- what a worker may tell of a piece that shares a word, in some schedule
abbrev pub answers_shared : Wave → ℕ → Told → Type 0
answers_shared wave place told = AnswersShared wave.priced (slice_index_or wave.fronts place []) wave.floor wave.nodes told.0 told.1 × MayStand wave.priced told.1

-- what a part of the search may return: it does its part with at most `nodes` visits; or the budget is spent, which comes only if the
-- search that shares nothing exceeds it. Running out of memory is allowed at any time
abbrev pub SharesOn : Priced → (Pricing → Pricing) → ℕ → Pricing → ℕ → Result (Unit {0}) SearchStop → Pricing → ℕ → Type 0
SharesOn priced due nodes before seen (Ok done) after last = Shares priced due before seen after last × (after.visits ≤ nodes)
SharesOn priced due nodes before seen (Err Spent) after last = Exceeds due before nodes
SharesOn priced due nodes before seen (Err OutOfMemory) after last = Unit {0}
