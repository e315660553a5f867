-- A bundle of four volunteers, for worked examples. Two of them have the chance 1/3, and two the chance 2/3.
use Rattle.std.specs.Prelude.{[], ◌∷◌}
use Rattle.define_bundles.specs.BundleText.{Bundle}
use Rattle.define_pools.specs.WorkedExamples.{four, four_stages, row}

abbrev pub uneven : Bundle
uneven = record {
  pool = four;
  answer = record {
    lottery = record { total = 3; rows = row (0 ∷ 2 ∷ []) 1 ∷ row (1 ∷ 3 ∷ []) 2 ∷ [] };
    stages = four_stages;
  };
}
