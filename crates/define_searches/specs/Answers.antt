-- The answer of a search that doesn't run out of memory. Builds on Visits of `define_searches`. `panel_search` and `check_search` use it to
-- define their own answers, which may also be that memory ran out.
use Rattle.std.specs.Prelude.{◌≡◌, ◌≤◌, ◌<◌, ℕ, List, Option, Result, Ok, Err}
use Rattle.define_searches.specs.Visits.{Search}

-- the answer under a budget of `nodes` visits: what the search finds if it is within the budget, else that the budget is spent
abbrev pub AnswersWithin : {Spent : Type 0} → Search → ℕ → Result (Option (List ℕ)) Spent → Type 0
AnswersWithin search nodes (Ok found) = (search.visits ≤ nodes) × (found ≡ search.found)
AnswersWithin search nodes (Err spent) = nodes < search.visits
