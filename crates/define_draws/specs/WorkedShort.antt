-- A lottery of four panels, of two volunteers each, for the worked examples.
use Rattle.std.specs.Prelude.{[], ◌∷◌}
use Rattle.define_pools.specs.Lottery.{Lottery}
use Rattle.define_pools.specs.WorkedExamples.{row}

abbrev pub two_by_three : Lottery
two_by_three = record {
  total = 6;
  rows = row (0 ∷ 3 ∷ []) 2 ∷ row (1 ∷ 3 ∷ []) 1 ∷ row (1 ∷ 4 ∷ []) 1 ∷ row (2 ∷ 4 ∷ []) 2 ∷ [];
}
