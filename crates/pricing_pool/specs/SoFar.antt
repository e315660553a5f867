-- The outcome of waves, piece by piece. Builds on Outcomes, and on Visits of `define_searches`. The contracts of `waves` and `pricing` cite
-- it.
use Rattle.std.specs.Prelude.{◌≡◌, ℕ, ◌+◌, ◌<◌, ◌≤◌, if◌then◌else◌, List, ℤ, int_lt, Option, Some, None, Result, Ok, Err}
use Rattle.define_searches.specs.Visits.{Pricing}
use Rattle.panel_search.specs.declared.searching.SearchStop.{SearchStop}
use Rattle.panel_search.specs.declared.searching.SearchStop.TheVariants.{Spent, OutOfMemory}
use Rattle.pricing_pool.specs.Outcomes.{Outcome}
use Rattle.pricing_pool.specs.declared.waves.SoFar.{SoFar}

-- the outcome so far, as a pricing: the visits, the floor, and what was kept
abbrev pub pricing_so_far : SoFar → Pricing
pricing_so_far so_far = record { visits = so_far.visits; floor = so_far.floor; kept = so_far.kept }

-- a composition that a piece found is kept if it weighs more than the floor; its weight is then the floor
abbrev pub heavier : Option (List ℕ × ℤ) → Pricing → Pricing
heavier None now = now
heavier (Some (counts, weight)) now = if int_lt now.floor weight then record now { floor = weight; kept = Some counts } else now

-- what taking a piece's outcome may return: `Ok` if the outcome is added and the visits are at most `nodes`; `Spent` if the visits would
-- exceed `nodes`. If the piece failed, taking its outcome fails too; if the piece ran out of memory, it fails with `OutOfMemory`. Running
-- out of memory is allowed at any time
abbrev pub CameTo : Outcome → ℕ → Result (Unit {0}) SearchStop → Pricing → Pricing → Type 0
CameTo (Ok (found, visits)) nodes (Ok done) before after = (after ≡ heavier found (record before { visits = before.visits + visits })) × (after.visits ≤ nodes)
CameTo (Ok (found, visits)) nodes (Err Spent) before after = nodes < before.visits + visits
CameTo (Ok (found, visits)) nodes (Err OutOfMemory) before after = Unit {0}
CameTo (Err Spent) nodes (Ok done) before after = ⊥
CameTo (Err Spent) nodes (Err stop) before after = Unit {0}
CameTo (Err OutOfMemory) nodes (Ok done) before after = ⊥
CameTo (Err OutOfMemory) nodes (Err Spent) before after = ⊥
CameTo (Err OutOfMemory) nodes (Err OutOfMemory) before after = Unit {0}

-- what a search may return if the definition's pricing is `due`: `Ok` if its own pricing `after` is `due`, with at most `nodes` visits;
-- `Spent` if `due` has more than `nodes` visits; running out of memory is allowed at any time
abbrev pub GoesOn : Pricing → ℕ → Result (Unit {0}) SearchStop → Pricing → Type 0
GoesOn due nodes (Ok done) after = (after ≡ due) × (due.visits ≤ nodes)
GoesOn due nodes (Err Spent) after = nodes < due.visits
GoesOn due nodes (Err OutOfMemory) after = Unit {0}
