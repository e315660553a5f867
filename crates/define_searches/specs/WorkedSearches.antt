-- Small pools for the worked examples of the searches, the waves, the checks and the run.
use Rattle.std.specs.Prelude.{List, [], ◌∷◌, ℤ, codes}
use Rattle.define_pools.specs.Pool.{Pool}
use Rattle.define_pools.specs.WorkedExamples.{person, bounded, category}
use Rattle.define_rows.specs.Row.{Row}

-- one seat for one of two volunteers: a, who has the value x, or b, who has y
abbrev pub either : Pool
either = record {
  size = 1;
  categories = category (codes "value") (bounded (codes "x") 0 1 ∷ bounded (codes "y") 0 1 ∷ []) ∷ [];
  volunteers = person (codes "a") (0 ∷ []) ∷ person (codes "b") (1 ∷ []) ∷ [];
}

-- two seats for four volunteers, each with a value of their own
abbrev pub apart : Pool
apart = record {
  size = 2;
  categories = category (codes "value") (bounded (codes "p") 0 1 ∷ bounded (codes "q") 0 1 ∷ bounded (codes "r") 0 1 ∷ bounded (codes "s") 0 1 ∷ []) ∷ [];
  volunteers = person (codes "a") (0 ∷ []) ∷ person (codes "b") (1 ∷ []) ∷ person (codes "c") (2 ∷ []) ∷ person (codes "d") (3 ∷ []) ∷ [];
}

abbrev pub row : ℤ → List ℤ → Row
row b entries = record { b = b; a = entries }
