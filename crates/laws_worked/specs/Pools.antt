-- Further small pools with their lotteries and certificates, for the examples of pools, lotteries and certificates.
use Rattle.std.specs.Prelude.{ℕ, List, [], ◌∷◌, pos, negsuc, codes}
use Rattle.define_pools.specs.Pool.{Pool}
use Rattle.define_pools.specs.Lottery.{LotteryRow, Lottery}
use Rattle.define_pools.specs.Certificate.{Stage}
use Rattle.define_pools.specs.WorkedExamples.{person, bounded, category, row, stage}

-- a list of rows with a total, which need not be a lottery
abbrev pub drawn : ℕ → List LotteryRow → Lottery
drawn total rows = record { total = total; rows = rows }

-- a lottery over `four` with one panel
abbrev pub four_single : Lottery
four_single = drawn 1 (row (0 ∷ 2 ∷ []) 1 ∷ [])

-- one seat and three volunteers, of whom a can be on no panel
abbrev pub barred : Pool
barred = record {
  size = 1;
  categories = category (codes "value") (bounded (codes "x") 0 0 ∷ bounded (codes "y") 0 1 ∷ []) ∷ [];
  volunteers = person (codes "a") (0 ∷ []) ∷ person (codes "b") (1 ∷ []) ∷ person (codes "c") (1 ∷ []) ∷ [];
}

abbrev pub barred_lottery : Lottery
barred_lottery = drawn 2 (row (1 ∷ []) 1 ∷ row (2 ∷ []) 1 ∷ [])

abbrev pub barred_stages : List Stage
barred_stages =
    stage (pos 0) (pos 1 ∷ pos 0 ∷ pos 0 ∷ []) ∷
    stage (pos 1) (negsuc 1 ∷ pos 1 ∷ pos 1 ∷ []) ∷ []

-- a lottery in which b alone has the seat
abbrev pub barred_single : Lottery
barred_single = drawn 1 (row (1 ∷ []) 1 ∷ [])

-- a pool that asks for two women but has only one
abbrev pub short : Pool
short = record {
  size = 2;
  categories = category (codes "gender") (bounded (codes "female") 2 2 ∷ bounded (codes "male") 0 2 ∷ []) ∷ [];
  volunteers = person (codes "a") (0 ∷ []) ∷ person (codes "b") (1 ∷ []) ∷ person (codes "c") (1 ∷ []) ∷ [];
}

-- two seats for two volunteers
abbrev pub pair : Pool
pair = record {
  size = 2;
  categories = category (codes "gender") (bounded (codes "female") 0 2 ∷ bounded (codes "male") 0 2 ∷ []) ∷ [];
  volunteers = person (codes "a") (0 ∷ []) ∷ person (codes "b") (1 ∷ []) ∷ [];
}

abbrev pub pair_lottery : Lottery
pair_lottery = drawn 1 (row (0 ∷ 1 ∷ []) 1 ∷ [])

abbrev pub pair_stages : List Stage
pair_stages =
    stage (pos 1) (pos 1 ∷ pos 0 ∷ []) ∷
    stage (pos 0) (negsuc 0 ∷ pos 1 ∷ []) ∷ []

-- two seats: one for the woman w, and one for one of three men, x, y and z
abbrev pub one_woman : Pool
one_woman = record {
  size = 2;
  categories = category (codes "gender") (bounded (codes "female") 1 1 ∷ bounded (codes "male") 1 1 ∷ []) ∷ [];
  volunteers = person (codes "w") (0 ∷ []) ∷ person (codes "x") (1 ∷ []) ∷ person (codes "y") (1 ∷ []) ∷ person (codes "z") (1 ∷ []) ∷ [];
}

abbrev pub one_woman_lottery : Lottery
one_woman_lottery = drawn 3 (row (0 ∷ 1 ∷ []) 1 ∷ row (0 ∷ 2 ∷ []) 1 ∷ row (0 ∷ 3 ∷ []) 1 ∷ [])

abbrev pub one_woman_stages : List Stage
one_woman_stages =
    stage (pos 1) (pos 0 ∷ pos 1 ∷ pos 1 ∷ pos 1 ∷ []) ∷
    stage (pos 2) (pos 3 ∷ negsuc 0 ∷ negsuc 0 ∷ negsuc 0 ∷ []) ∷ []

-- one seat for a, b and c, and one for d and e
abbrev pub three_and_two : Pool
three_and_two = record {
  size = 2;
  categories = category (codes "value") (bounded (codes "x") 1 1 ∷ bounded (codes "y") 1 1 ∷ []) ∷ [];
  volunteers = person (codes "a") (0 ∷ []) ∷ person (codes "b") (0 ∷ []) ∷ person (codes "c") (0 ∷ []) ∷ person (codes "d") (1 ∷ []) ∷ person (codes "e") (1 ∷ []) ∷ [];
}

abbrev pub three_and_two_lottery : Lottery
three_and_two_lottery = drawn 6 (row (0 ∷ 3 ∷ []) 2 ∷ row (1 ∷ 3 ∷ []) 1 ∷ row (1 ∷ 4 ∷ []) 1 ∷ row (2 ∷ 4 ∷ []) 2 ∷ [])

abbrev pub three_and_two_stages : List Stage
three_and_two_stages =
    stage (pos 1) (pos 1 ∷ pos 1 ∷ pos 1 ∷ pos 0 ∷ pos 0 ∷ []) ∷
    stage (pos 1) (negsuc 1 ∷ negsuc 1 ∷ negsuc 1 ∷ pos 3 ∷ pos 3 ∷ []) ∷ []

-- a lottery in which a, b, c and e have the chance 1/3, and d has 2/3
abbrev pub uneven_lottery : Lottery
uneven_lottery = drawn 3 (row (0 ∷ 3 ∷ []) 1 ∷ row (1 ∷ 3 ∷ []) 1 ∷ row (2 ∷ 4 ∷ []) 1 ∷ [])

-- two seats for four volunteers, of whom d can be on a panel neither with b nor with c
abbrev pub apart : Pool
apart = record {
  size = 2;
  categories = category (codes "one") (bounded (codes "p") 0 1 ∷ bounded (codes "q") 0 2 ∷ []) ∷ category (codes "two") (bounded (codes "r") 0 1 ∷ bounded (codes "s") 0 2 ∷ []) ∷ [];
  volunteers = person (codes "a") (1 ∷ 1 ∷ []) ∷ person (codes "b") (0 ∷ 1 ∷ []) ∷ person (codes "c") (1 ∷ 0 ∷ []) ∷ person (codes "d") (0 ∷ 0 ∷ []) ∷ [];
}

abbrev pub apart_lottery : Lottery
apart_lottery = drawn 2 (row (0 ∷ 3 ∷ []) 1 ∷ row (1 ∷ 2 ∷ []) 1 ∷ [])

-- two stages over `apart`: the panel of a and b weighs less than the first cap, and more than the second
abbrev pub apart_stages : List Stage
apart_stages =
    stage (pos 2) (pos 0 ∷ pos 1 ∷ pos 1 ∷ pos 2 ∷ []) ∷
    stage (pos 0) (pos 1 ∷ pos 0 ∷ pos 0 ∷ negsuc 0 ∷ []) ∷ []
