-- Small classes for the worked examples of spreading, here and in `laws_worked`.
use Rattle.std.specs.Prelude.{ℕ, List, [], ◌∷◌, codes, length, None}
use Rattle.frac128.specs.Fractions.{Fraction}
use Rattle.define_pools.specs.Pool.{Pool}
use Rattle.define_pools.specs.WorkedExamples.{bounded, category, person}
use Rattle.define_searches.specs.Classes.{Class, Classes}

-- a class of these members, all of whom may be taken
abbrev pub class : List ℕ → Class
class members = record { members = members; values = []; least = 0; most = length members; household = None }

-- two seats for two classes, one of three members and one of two
abbrev pub three_and_two : Classes
three_and_two = record { size = 2; bounds = []; classes = class (0 ∷ 1 ∷ 2 ∷ []) ∷ class (3 ∷ 4 ∷ []) ∷ [] }

abbrev pub over : ℕ → ℕ → Fraction
over num den = record { num = num; den = den }

-- one seat for three volunteers, each with a value of their own
abbrev pub one_of_three : Pool
one_of_three = record {
  size = 1;
  categories = category (codes "value") (bounded (codes "p") 0 1 ∷ bounded (codes "q") 0 1 ∷ bounded (codes "r") 0 1 ∷ []) ∷ [];
  volunteers = person (codes "a") (0 ∷ []) ∷ person (codes "b") (1 ∷ []) ∷ person (codes "c") (2 ∷ []) ∷ [];
}

-- one seat for three volunteers, of whom the first two are alike
abbrev pub pair_and_one : Pool
pair_and_one = record {
  size = 1;
  categories = category (codes "value") (bounded (codes "p") 0 1 ∷ bounded (codes "q") 0 1 ∷ []) ∷ [];
  volunteers = person (codes "a") (0 ∷ []) ∷ person (codes "b") (0 ∷ []) ∷ person (codes "c") (1 ∷ []) ∷ [];
}
