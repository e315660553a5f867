-- What a search counts at the front that it has entered. Builds on Tallies, and on Classes, Compositions and Fronts of `define_searches`.
-- `panel_search`, `check_search`, `quota_loosen` and `alike` use it.
use Rattle.std.specs.Prelude.{◌≡◌, ℕ, ◌*◌, ◌≤◌, ◌<◌, true, List, length, slice_index, slice_get, get_or, Some}
use Rattle.define_searches.specs.Classes.{Class, Classes, volunteer_count}
use Rattle.define_searches.specs.Compositions.{taken_of, has_value, is_of_household}
use Rattle.define_searches.specs.Fronts.{sizes_of, taken_by, most_given}
use Rattle.define_searches.specs.Tallies.{cell}

-- what a search counts: the members taken, in all (`taken`), of each value (`held`) and of each household (`homes`); and the most that the
-- later classes give, in all (`later_taken`) and of each value (`later`)
pub record FrontTally : Type 0 where
  pub taken : ℕ
  pub held : List ℕ
  pub later_taken : ℕ
  pub later : List ℕ
  pub homes : List ℕ

-- the tally is right for `front` and the classes `to_come`: how many the front takes in all, of each value and of each household, and how
-- many the classes to come give at most, in all and of each value
pub record Tracks (all : Classes) (front : List ℕ) (to_come : List Class) (tally : FrontTally) : Type 0 where
  pub taken : tally.taken ≡ taken_by all front
  pub later_taken : tally.later_taken ≡ most_given (λ class. true) to_come
  pub held_cells : length tally.held ≡ 50 * length all.bounds
  pub later_cells : length tally.later ≡ 50 * length all.bounds
  pub held : (c v : ℕ) → c < length all.bounds → v < 50 → slice_index tally.held (cell c v) ≡ taken_of (has_value c v) all.classes front
  pub later : (c v : ℕ) → c < length all.bounds → v < 50 → slice_index tally.later (cell c v) ≡ most_given (has_value c v) to_come
  pub homes_cells : length tally.homes ≡ volunteer_count all
  pub homes : (h : ℕ) → h < volunteer_count all → slice_index tally.homes h ≡ taken_of (λ class. is_of_household h class.household) all.classes front

-- the most that the classes in `classes` give, in all (`total`) and of each value (`cells`)
pub record Gives (all : Classes) (classes : List Class) (total : ℕ) (cells : List ℕ) : Type 0 where
  pub in_all : total ≡ most_given (λ class. true) classes
  pub room : length cells ≡ 50 * length all.bounds
  pub each : (c v : ℕ) → c < length all.bounds → v < 50 → slice_index cells (cell c v) ≡ most_given (has_value c v) classes

-- each count is at most its class's size
abbrev pub AreWithin : Classes → List ℕ → Type 0
AreWithin all counts = (t : ℕ) → t < length counts → slice_index counts t ≤ slice_index (sizes_of all) t

-- the class in place `depth`, if there is one, has at least `count` members
abbrev pub CanTake : Classes → ℕ → ℕ → Type 0
CanTake all depth count = (class : Class) → slice_get all.classes depth ≡ Some class → count ≤ length class.members

-- `class` is the class in place `i`
pub record Stands (all : Classes) (i : ℕ) (class : Class) : Type 0 where
  pub below : i < length all.classes
  pub is : class ≡ get_or all.classes i class
