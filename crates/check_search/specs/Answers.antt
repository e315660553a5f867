-- The answer of a search under a budget of visits. Builds on Visits of `define_checks`. The promise of `panel_above_cap` and the contracts
-- of src/searching.rt cite it.
use Rattle.std.specs.Prelude.{◌≡◌, ◌≤◌, ◌<◌, ℕ, List, Option, Result, Ok, Err}
use Rattle.define_checks.specs.Caps.{first_above_cap}
use Rattle.define_checks.specs.Visits.{stage_search}
use Rattle.define_pools.specs.Certificate.{Stage}
use Rattle.define_pools.specs.Pool.{Pool}
use Rattle.define_searches.specs.Visits.{Search}
use Rattle.check_search.specs.declared.searching.CapStop.{CapStop}
use Rattle.check_search.specs.declared.searching.CapStop.TheVariants.{Spent, OutOfMemory}

-- a search's answer under a budget of `nodes` visits: if its visits are within the budget, what it finds; else that the budget is spent.
-- Running out of memory is allowed at any time
abbrev pub Answers : Search → ℕ → Result (Option (List ℕ)) CapStop → Type 0
Answers search nodes (Ok found) = (search.visits ≤ nodes) × (found ≡ search.found)
Answers search nodes (Err Spent) = nodes < search.visits
Answers search nodes (Err OutOfMemory) = Unit {0}

-- the answer of the search at `stage`: if the search makes at most `nodes` visits, the first panel above the stage's cap; else that the
-- budget is spent. Running out of memory is allowed at any time. The list of earlier stages begins with the latest
abbrev pub AnswersAt : Pool → List Stage → Stage → ℕ → Result (Option (List ℕ)) CapStop → Type 0
AnswersAt pool earlier stage nodes (Ok found) = ((stage_search pool earlier stage).visits ≤ nodes) × (found ≡ first_above_cap pool earlier stage)
AnswersAt pool earlier stage nodes (Err Spent) = nodes < (stage_search pool earlier stage).visits
AnswersAt pool earlier stage nodes (Err OutOfMemory) = Unit {0}
