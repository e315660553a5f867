-- Counters for values: 50 cells for each category, so that each of its values, of which there are at most 50, has one. `panel_search`,
-- `check_search` and `quota_loosen` keep them.
use Rattle.std.specs.Prelude.{◌≡◌, ℕ, ◌+◌, ◌*◌, ◌≤◌, ◌<◌, ◌==◌, nat_le, if◌then◌else◌, Bool, false, IsTrue, ◌&&◌, List, [], length, slice_index, slice_index_or, slice_get, Some}
use Rattle.define_searches.specs.declared.Bounds.{Bounds}

-- the cell of a category's value
abbrev pub cell : ℕ → ℕ → ℕ
cell category value = 50 * category + value

-- `values` has a value below 50 for each category, and there are 50 cells for each of these categories
pub record HaveCells (values cells : List ℕ) : Type 0 where
  pub places : (c : ℕ) → c < length values → slice_index values c < 50
  pub room : 50 * length values ≤ length cells

-- the cell of each value in `values` is at least `count`
abbrev pub CanGive : List ℕ → List ℕ → ℕ → Type 0
CanGive values cells count = (c : ℕ) → c < length values → count ≤ slice_index cells (cell c (slice_index values c))

-- the cells of the first `categories` categories are at most `most`
abbrev pub AreAtMost : ℕ → ℕ → List ℕ → Type 0
AreAtMost most categories cells = (c v : ℕ) → c < categories → v < 50 → slice_index cells (cell c v) ≤ most

-- how many of `count` members with the values `values` have value `v` of category `c`: all if `v` is their value of `c`, else 0
abbrev pub added_at : List ℕ → ℕ → ℕ → ℕ → ℕ
added_at values count c v = if slice_index values c == v then count else 0

-- `after` are the cells `before` with `count` more members counted, whose values are `values`
pub record HasMore (values : List ℕ) (count : ℕ) (before after : List ℕ) : Type 0 where
  pub same : length after ≡ length before
  pub cells : (c v : ℕ) → c < length values → v < 50 → slice_index after (cell c v) ≡ slice_index before (cell c v) + added_at values count c v

-- the bounds can still be met: `number ≤ upper` and `lower ≤ number + more`
abbrev pub within_reach : Bounds → ℕ → ℕ → Bool
within_reach bound number more = nat_le number bound.upper && nat_le bound.lower (number + more)

-- value v of category c has the bounds `bound`
abbrev pub HasBound : List (List Bounds) → ℕ → ℕ → Bounds → Type 0
HasBound bounds c v bound = slice_get (slice_index_or bounds c []) v ≡ Some bound

-- there is one value for each category, and it is a place among the category's values
pub record HaveBounds (bounds : List (List Bounds)) (values : List ℕ) : Type 0 where
  pub one_each : length values ≡ length bounds
  pub within : (c : ℕ) → c < length values → slice_index values c < length (slice_index_or bounds c [])

-- the bounds of value v of category c can still be met after `count` more members who have it
abbrev pub reaches : Bounds → List ℕ → List ℕ → ℕ → ℕ → ℕ → Bool
reaches bound held later count c v = within_reach bound (slice_index held (cell c v) + count) (slice_index later (cell c v))

-- the bounds of each value in `values` can still be met after `count` more members who have all of the values
abbrev pub AllReach : List (List Bounds) → List ℕ → List ℕ → List ℕ → ℕ → Type 0
AllReach bounds held later values count =
    (c : ℕ) (bound : Bounds) → c < length values → HasBound bounds c (slice_index values c) bound → IsTrue (reaches bound held later count c (slice_index values c))

-- each category has at most 50 values, and there are cells for it
pub record FitCells (bounds : List (List Bounds)) (cells : List ℕ) : Type 0 where
  pub few : (c : ℕ) → c < length bounds → length (slice_index_or bounds c []) ≤ 50
  pub room : 50 * length bounds ≤ length cells

-- the bounds of each value can still be met
abbrev pub EachReaches : List (List Bounds) → List ℕ → List ℕ → Type 0
EachReaches bounds held later = (c v : ℕ) (bound : Bounds) → c < length bounds → HasBound bounds c v bound → IsTrue (reaches bound held later 0 c v)

-- the bounds of some value can no longer be met
abbrev pub SomeFails : List (List Bounds) → List ℕ → List ℕ → Type 0
SomeFails bounds held later = (c : ℕ) × (v : ℕ) × (bound : Bounds) × (c < length bounds) × HasBound bounds c v bound × (reaches bound held later 0 c v ≡ false)
