-- Counts that are added to the cells of values, category by category.
use Rattle.std.proofs.Common.{◌≡◌, ℕ, ◌+◌, ◌*◌, ◌≤◌, ◌<◌, List, length}
use Rattle.std.specs.Prelude.{slice_index}
use Rattle.define_searches.specs.Tallies.{cell, added_at}

-- In the first `done` categories, the cells of `values` have `count` members more than before; the other cells are unchanged.
pub record SharesUpTo (done : ℕ) (values : List ℕ) (count : ℕ) (before after : List ℕ) : Type 0 where
  pub same : length after ≡ length before
  pub more : (c v : ℕ) → c < done → v < 50 → slice_index after (cell c v) ≡ slice_index before (cell c v) + added_at values count c v
  pub rest : (i : ℕ) → 50 * done ≤ i → i < length before → slice_index after i ≡ slice_index before i
