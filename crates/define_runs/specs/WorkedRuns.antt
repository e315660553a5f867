-- Answers of runs over small pools, for the worked examples.
use Rattle.std.specs.Prelude.{ℕ, [], ◌∷◌, pos, negsuc}
use Rattle.define_pools.specs.Certificate.{Answer}
use Rattle.define_runs.specs.Run.{Limits}

abbrev pub limits : ℕ → ℕ → ℕ → Limits
limits bits pivots nodes = record { bits = bits; pivots = pivots; nodes = nodes }

-- the answer for one seat and two volunteers, each of whom has the chance 1/2
abbrev pub halves : Answer
halves = record {
  lottery = record { total = 2; rows = record { panel = 0 ∷ []; weight = 1 } ∷ record { panel = 1 ∷ []; weight = 1 } ∷ [] };
  stages = record { weights = pos 1 ∷ pos 1 ∷ []; cap = pos 1 } ∷ [];
}

-- the answer for two women and two men, of whom one woman and one man are to be chosen; each has the chance 1/2
abbrev pub pairs : Answer
pairs = record {
  lottery = record { total = 2; rows = record { panel = 0 ∷ 2 ∷ []; weight = 1 } ∷ record { panel = 1 ∷ 3 ∷ []; weight = 1 } ∷ [] };
  stages = record { weights = pos 1 ∷ pos 1 ∷ pos 0 ∷ pos 0 ∷ []; cap = pos 1 }
      ∷ record { weights = negsuc 0 ∷ negsuc 0 ∷ pos 1 ∷ pos 1 ∷ []; cap = pos 0 } ∷ [];
}
