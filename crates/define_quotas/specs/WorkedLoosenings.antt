-- Small pools for the worked examples of the search for the cheapest team.
use Rattle.std.specs.Prelude.{ℕ, [], ◌∷◌, codes}
use Rattle.define_pools.specs.Pool.{Pool}
use Rattle.define_pools.specs.WorkedExamples.{bounded, category, person}

-- a pool of one woman and two men, with a panel of two, and these bounds for women
abbrev pub one_woman : ℕ → ℕ → Pool
one_woman lower upper = record {
  size = 2;
  categories = category (codes "gender") (bounded (codes "female") lower upper ∷ bounded (codes "male") 0 2 ∷ []) ∷ [];
  volunteers = person (codes "a") (0 ∷ []) ∷ person (codes "b") (1 ∷ []) ∷ person (codes "c") (1 ∷ []) ∷ [];
}
