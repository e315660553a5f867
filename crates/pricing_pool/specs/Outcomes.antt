-- What the searches of a wave's pieces answer, worker by worker. Builds on Visits of `define_searches`, Below of `define_searches`, and
-- Answers and Pricers of `panel_search`. SoFar and the contracts of `wave`, `workers` and `waves` cite it.
use Rattle.std.specs.Prelude.{◌≡◌, ℕ, ◌+◌, ◌*◌, ◌/◌, ◌%◌, ◌<◌, ◌≤◌, List, [], length, slice_get, slice_index_or, ◌++◌, Vec, vec_items, ℤ, Option, Some, Result, Ok, Err}
use Rattle.std.specs.declared.alloc.Global.{Global}
use Rattle.std.specs.declared.alloc.AllocError.{AllocError}
use Rattle.define_searches.specs.Visits.{Pricing}
use Rattle.define_searches.specs.Below.{search_from}
use Rattle.panel_search.specs.Answers.{AnswersWeighed}
use Rattle.panel_search.specs.Pricers.{Priced}
use Rattle.panel_search.specs.declared.searching.SearchStop.{SearchStop}

-- what the search of a piece returns: the composition that it kept, if any, with its weight, and its visits; or why it stopped
abbrev pub Outcome : Type 0
Outcome = Result (Option (List ℕ × ℤ) × ℕ) SearchStop

-- what a worker tells of a piece: its outcome, and the greatest word that the worker has loaded by then
abbrev pub Told : Type 0
Told = Outcome × ℕ

-- the search of the piece at place `place` of a wave
abbrev pub search_at : Priced → List (List ℕ) → ℤ → ℕ → Pricing
search_at priced fronts floor place = search_from priced.classes priced.closed priced.row (slice_index_or fronts place []) floor

-- `outcomes` are those of worker `worker`: outcome `i` answers for the piece at place `worker + i * workers`. Each of these places that is
-- below `places` has an outcome
pub record AreOf (answers : ℕ → Told → Type 0) (workers worker places : ℕ) (outcomes : List Told) : Type 0 where
  pub each : (i : ℕ) (told : Told) → slice_get outcomes i ≡ Some told → answers (worker + i * workers) told
  pub all : places ≤ worker + length outcomes * workers

-- `all` has a list of outcomes for each of `count` workers, from worker `from` on
pub record AreOfAll (answers : ℕ → Told → Type 0) (workers from count places : ℕ) (all : List (Vec Told Global)) : Type 0 where
  pub one_each : length all ≡ count
  pub each : (j : ℕ) (outcomes : Vec Told Global) → slice_get all j ≡ Some outcomes → AreOf answers workers (from + j) places (vec_items outcomes)

-- the fronts of a wave, over a row that is priced; the floor; and how many visits each piece may make
pub record Wave : Type 0 where
  pub priced : Priced
  pub fronts : List (List ℕ)
  pub floor : ℤ
  pub nodes : ℕ

-- the answer of a piece that shares nothing
abbrev pub answers_alone : Wave → ℕ → Told → Type 0
answers_alone wave place told = AnswersWeighed (search_at wave.priced wave.fronts wave.floor place) wave.nodes told.0

-- there is an outcome for the piece at `place`: outcome `place / workers` of worker `place % workers`, both counted from 0
abbrev pub HasAnswer : List (Vec Told Global) → ℕ → ℕ → Type 0
HasAnswer all workers place = (place % workers < length all)
    × ((outcomes : Vec Told Global) → slice_get all (place % workers) ≡ Some outcomes → place / workers < length (vec_items outcomes))

-- `outcome` is that of the piece at `place`: outcome `place / workers` of worker `place % workers`, both counted from 0
abbrev pub IsAnswer : List (Vec Told Global) → ℕ → ℕ → Told → Type 0
IsAnswer all workers place outcome = (outcomes : Vec Told Global) × (slice_get all (place % workers) ≡ Some outcomes) × (slice_get (vec_items outcomes) (place / workers) ≡ Some outcome)

-- `all` is the first list followed by the second, neither of which failed
abbrev pub AreTogether : Result (Vec (Vec Told Global) Global) AllocError → Result (Vec (Vec Told Global) Global) AllocError → List (Vec Told Global) → Type 0
AreTogether (Ok first) (Ok second) all = all ≡ vec_items first ++ vec_items second
AreTogether (Ok first) (Err stop) all = ⊥
AreTogether (Err stop) second all = ⊥
