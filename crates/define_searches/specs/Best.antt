-- What makes a composition the best one. Builds on Classes, Compositions and the rows of `define_rows`. The law `price_is_best` uses it,
-- and so do proofs of `define_checks` and `define_runs`; `define_quotas` uses the order of counts.
use Rattle.std.specs.Prelude.{ℕ, ◌==◌, nat_lt, Bool, false, ◌&&◌, ◌||◌, IsTrue, List, [], ◌∷◌, Contains, int_lt, int_le}
use Rattle.define_rows.specs.Row.{Row}
use Rattle.define_searches.specs.Classes.{Classes}
use Rattle.define_searches.specs.Compositions.{attains, compositions, weight_in}

-- `counts` are a composition that attains the closed rows, and weighs more in `row` than the right side of `row`
pub record Qualifies (all : Classes) (closed : List Row) (row : Row) (counts : List ℕ) : Type 0 where
  pub composition : Contains (compositions all) counts
  pub attained : IsTrue (attains closed counts)
  pub above : IsTrue (int_lt row.b (weight_in row.a counts))

-- the first counts come before the second: they have the greater count for the first class in which they differ
abbrev pub comes_before : List ℕ → List ℕ → Bool
comes_before [] others = false
comes_before (c ∷ counts) [] = false
comes_before (c ∷ counts) (d ∷ others) = nat_lt d c || (c == d && comes_before counts others)

-- `counts` qualify. Of all that qualify, none weighs more, and none that comes before `counts` weighs as much
pub record IsBest (all : Classes) (closed : List Row) (row : Row) (counts : List ℕ) : Type 0 where
  pub qualifies : Qualifies all closed row counts
  pub none_heavier : (other : List ℕ) → Qualifies all closed row other → IsTrue (int_le (weight_in row.a other) (weight_in row.a counts))
  pub first : (other : List ℕ) → Qualifies all closed row other → IsTrue (comes_before other counts) →
      IsTrue (int_lt (weight_in row.a other) (weight_in row.a counts))
