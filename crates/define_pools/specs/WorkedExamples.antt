-- Small pools with their lotteries and certificates, for the worked examples of many crates.
use Rattle.std.specs.Prelude.{ℕ, List, [], ◌∷◌, ℤ, pos, negsuc, codes, None, Some}
use Rattle.define_pools.specs.declared.Standing.TheVariants.{Open, Seated, Gone}
use Rattle.define_pools.specs.Pool.{BoundedValue, Category, Volunteer, Pool}
use Rattle.define_pools.specs.Lottery.{LotteryRow, Lottery}
use Rattle.define_pools.specs.Certificate.{Stage}
use Rattle.define_pools.specs.Building.{standing_set}

-- an open volunteer with this id and these places of values, without a household
abbrev pub person : List ℕ → List ℕ → Volunteer
person id values = record { id = id; values = values; standing = Open; household = None }

-- a value with its bounds
abbrev pub bounded : List ℕ → ℕ → ℕ → BoundedValue
bounded name lower upper = record { name = name; lower = lower; upper = upper }

abbrev pub category : List ℕ → List BoundedValue → Category
category name values = record { name = name; values = values }

-- a panel with its weight
abbrev pub row : List ℕ → ℕ → LotteryRow
row panel weight = record { panel = panel; weight = weight }

abbrev pub stage : ℤ → List ℤ → Stage
stage cap weights = record { cap = cap; weights = weights }

-- two women and two men, of whom one woman and one man are to be chosen
abbrev pub four : Pool
four = record {
  size = 2;
  categories = category (codes "gender") (bounded (codes "female") 1 1 ∷ bounded (codes "male") 1 1 ∷ []) ∷ [];
  volunteers = person (codes "a") (0 ∷ []) ∷ person (codes "b") (0 ∷ []) ∷ person (codes "c") (1 ∷ []) ∷ person (codes "d") (1 ∷ []) ∷ [];
}

abbrev pub four_lottery : Lottery
four_lottery = record { total = 2; rows = row (0 ∷ 2 ∷ []) 1 ∷ row (1 ∷ 3 ∷ []) 1 ∷ [] }

abbrev pub four_stages : List Stage
four_stages =
    stage (pos 1) (pos 1 ∷ pos 1 ∷ pos 0 ∷ pos 0 ∷ []) ∷
    stage (pos 0) (negsuc 0 ∷ negsuc 0 ∷ pos 1 ∷ pos 1 ∷ []) ∷ []

-- the pool `four` after a and c were drawn and a dropped out: a is gone, and c keeps the seat
abbrev pub after_dropout : Pool
after_dropout = standing_set (standing_set four 0 Gone) 2 Seated

abbrev pub dropout_lottery : Lottery
dropout_lottery = record { total = 1; rows = row (1 ∷ 2 ∷ []) 1 ∷ [] }

abbrev pub dropout_stages : List Stage
dropout_stages =
    stage (pos 0) (pos 1 ∷ pos 0 ∷ pos 0 ∷ pos 0 ∷ []) ∷
    stage (pos 0) (negsuc 0 ∷ pos 0 ∷ pos 0 ∷ pos 1 ∷ []) ∷
    stage (pos 1) (pos 0 ∷ pos 1 ∷ pos 0 ∷ negsuc 0 ∷ []) ∷
    stage (pos 0) (pos 0 ∷ negsuc 0 ∷ pos 1 ∷ pos 0 ∷ []) ∷ []

-- a volunteer of a household
abbrev pub of_household : List ℕ → Volunteer → Volunteer
of_household name volunteer = record volunteer { household = Some name }

-- two women and two men, of whom one woman and one man are of one household
abbrev pub family : Pool
family = record four {
  volunteers = of_household (codes "h") (person (codes "a") (0 ∷ [])) ∷ person (codes "b") (0 ∷ [])
      ∷ of_household (codes "h") (person (codes "c") (1 ∷ [])) ∷ person (codes "d") (1 ∷ []) ∷ [];
}

-- two seats for one woman and one man who are of one household, so there is no quota panel
abbrev pub couple : Pool
couple = record {
  size = 2;
  categories = category (codes "gender") (bounded (codes "female") 0 2 ∷ bounded (codes "male") 0 2 ∷ []) ∷ [];
  volunteers = of_household (codes "h") (person (codes "a") (0 ∷ [])) ∷ of_household (codes "h") (person (codes "b") (1 ∷ [])) ∷ [];
}

abbrev pub family_lottery : Lottery
family_lottery = record { total = 2; rows = row (0 ∷ 3 ∷ []) 1 ∷ row (1 ∷ 2 ∷ []) 1 ∷ [] }

abbrev pub family_stages : List Stage
family_stages =
    stage (pos 1) (pos 1 ∷ pos 1 ∷ pos 0 ∷ pos 0 ∷ []) ∷
    stage (pos 0) (pos 0 ∷ negsuc 0 ∷ pos 1 ∷ pos 0 ∷ []) ∷
    stage (pos 0) (negsuc 0 ∷ pos 1 ∷ negsuc 0 ∷ pos 1 ∷ []) ∷ []

-- one seat: category `one` needs x, which only a has, and category `two` needs p, which only b has
abbrev pub crossed : Pool
crossed = record {
  size = 1;
  categories = category (codes "one") (bounded (codes "x") 1 1 ∷ bounded (codes "y") 0 1 ∷ []) ∷ category (codes "two") (bounded (codes "p") 1 1 ∷ bounded (codes "q") 0 1 ∷ []) ∷ [];
  volunteers = person (codes "a") (0 ∷ 1 ∷ []) ∷ person (codes "b") (1 ∷ 0 ∷ []) ∷ [];
}

-- no category and no volunteer
abbrev pub nobody : Pool
nobody = record {
  size = 1;
  categories = [];
  volunteers = [];
}
