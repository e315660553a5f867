-- The pieces of a search, as they are made class by class. The contracts of `dividing` and `pricing` cite it.
use Rattle.std.specs.Prelude.{◌≡◌, ℕ, true, List, [], ◌∷◌, ◌++◌, drop, filter, length, map, ℤ}
use Rattle.define_rows.specs.Row.{Row}
use Rattle.define_searches.specs.Classes.{Class, Classes}
use Rattle.define_searches.specs.Compositions.{counts_of}
use Rattle.define_searches.specs.Fronts.{is_live_above}
use Rattle.define_searches.specs.Below.{IsFront}

-- `front` has a count for each of the first `depth` classes, and is live with the right side of `row` as the floor
pub record IsLiveFront (all : Classes) (closed : List Row) (row : Row) (depth : ℕ) (front : List ℕ) : Type 0 where
  pub long : length front ≡ depth
  pub is_front : IsFront all front
  pub live : is_live_above all closed row row.b front ≡ true

-- the children of `front` that have one of `counts` of the next class and are live above `floor`, in the order of `counts`
abbrev pub live_among : Classes → List Row → Row → ℤ → List ℕ → List ℕ → List (List ℕ)
live_among all closed row floor front counts = filter (is_live_above all closed row floor) (map (λ c. front ++ c ∷ []) counts)

-- the counts that the first class of the list may have, or no counts if the list is empty
abbrev pub counts_first : List Class → List ℕ
counts_first [] = []
counts_first (class ∷ later) = counts_of class

-- the live children of a front, with the row's right side as the floor
abbrev pub live_children : Classes → List Row → Row → List ℕ → List (List ℕ)
live_children all closed row front = live_among all closed row row.b front (counts_first (drop (length front) all.classes))
