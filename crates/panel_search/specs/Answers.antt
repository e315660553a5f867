-- What a search under a budget of visits answers. Builds on `Visits` of `define_searches` and `Waves` of `define_searches`. The contracts of
-- the searches of this crate and of `pricing_pool` cite it.
use Rattle.std.specs.Prelude.{◌≡◌, ◌≤◌, ◌<◌, ℕ, ℤ, List, Option, Some, None, Result, Ok, Err, Vec, vec_items}
use Rattle.std.specs.declared.alloc.Global.{Global}
use Rattle.define_searches.specs.Visits.{Search, Pricing}
use Rattle.define_searches.specs.Waves.{Pieces}
use Rattle.panel_search.specs.declared.searching.BudgetSpent.{BudgetSpent}
use Rattle.panel_search.specs.declared.searching.SearchStop.{SearchStop}
use Rattle.panel_search.specs.declared.searching.SearchStop.TheVariants.{Spent, OutOfMemory}

-- the answer of a search: if its visits are at most `nodes`, what it finds; else that the budget is spent. Running out of memory is allowed
-- at any time
abbrev pub Answers : Search → ℕ → Result (Option (List ℕ)) SearchStop → Type 0
Answers search nodes (Ok found) = (search.visits ≤ nodes) × (found ≡ search.found)
Answers search nodes (Err Spent) = nodes < search.visits
Answers search nodes (Err OutOfMemory) = Unit {0}

-- the answer of a search for the best composition whose memory is allocated already: if its visits are at most `nodes`, what it kept and
-- the number of visits; else that the budget is spent
abbrev pub AnswersBestWithin : Pricing → ℕ → Result (Option (List ℕ) × ℕ) BudgetSpent → Type 0
AnswersBestWithin pricing nodes (Ok (found, visits)) = (pricing.visits ≤ nodes) × (found ≡ pricing.kept) × (visits ≡ pricing.visits)
AnswersBestWithin pricing nodes (Err spent) = nodes < pricing.visits

-- the answer of a search for the best composition: if its visits are at most `nodes`, what it kept and the number of visits; else that the
-- budget is spent. Running out of memory is allowed at any time
abbrev pub AnswersBest : Pricing → ℕ → Result (Option (List ℕ) × ℕ) SearchStop → Type 0
AnswersBest pricing nodes (Ok (found, visits)) = (pricing.visits ≤ nodes) × (found ≡ pricing.kept) × (visits ≡ pricing.visits)
AnswersBest pricing nodes (Err Spent) = nodes < pricing.visits
AnswersBest pricing nodes (Err OutOfMemory) = Unit {0}

-- the answer of the division of a search: if its visits are at most `nodes`, the fronts of the pieces and the number of visits made to find
-- them; else that the budget is spent. Running out of memory is allowed at any time
abbrev pub AnswersPieces : Pieces → ℕ → Result (Vec (List ℕ) Global × ℕ) SearchStop → Type 0
AnswersPieces parts nodes (Ok (fronts, visits)) = (parts.visits ≤ nodes) × (vec_items fronts ≡ parts.fronts) × (visits ≡ parts.visits)
AnswersPieces parts nodes (Err Spent) = nodes < parts.visits
AnswersPieces parts nodes (Err OutOfMemory) = Unit {0}

-- the composition that the search kept, with its weight, which is the search's floor at the end; None if it kept none
abbrev pub IsKept : Pricing → Option (List ℕ × ℤ) → Type 0
IsKept pricing None = pricing.kept ≡ None
IsKept pricing (Some (counts, weight)) = (pricing.kept ≡ Some counts) × (weight ≡ pricing.floor)

-- the answer of a search whose memory is allocated already: if its visits are at most `nodes`, the composition that it kept, with its
-- weight, and the number of visits; else that the budget is spent
abbrev pub AnswersWeighedWithin : Pricing → ℕ → Result (Option (List ℕ × ℤ) × ℕ) BudgetSpent → Type 0
AnswersWeighedWithin pricing nodes (Ok (found, visits)) = (pricing.visits ≤ nodes) × IsKept pricing found × (visits ≡ pricing.visits)
AnswersWeighedWithin pricing nodes (Err spent) = nodes < pricing.visits

-- the answer of a search that allocates its memory first: if its visits are at most `nodes`, the composition that it kept, with its weight,
-- and the number of visits; else that the budget is spent. Running out of memory is allowed at any time
abbrev pub AnswersWeighed : Pricing → ℕ → Result (Option (List ℕ × ℤ) × ℕ) SearchStop → Type 0
AnswersWeighed pricing nodes (Ok (found, visits)) = (pricing.visits ≤ nodes) × IsKept pricing found × (visits ≡ pricing.visits)
AnswersWeighed pricing nodes (Err Spent) = nodes < pricing.visits
AnswersWeighed pricing nodes (Err OutOfMemory) = Unit {0}
