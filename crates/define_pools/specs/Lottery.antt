-- Lotteries over a pool, and when one lottery is above another. Builds on Lists and Pool. An auditor reads these three files.
use Rattle.std.specs.Prelude.{◌≡◌, ℕ, ◌*◌, ◌==◌, nat_lt, nat_le, if◌then◌else◌, Bool, false, IsTrue, IsFalse, List, [], ◌∷◌, map, length, filter, sum_by}
use Rattle.std.specs.List.{list_all}
use Rattle.define_pools.specs.Lists.{includes, all_different, rising}
use Rattle.define_pools.specs.Pool.{Pool, everybody, is_quota_panel}

-- a panel and its weight
pub record LotteryRow : Type 0 where
  pub panel : List ℕ
  pub weight : ℕ

-- panels with their weights, and a total. `TotalAgrees` says that the total is the sum of the weights
pub record Lottery : Type 0 where
  pub total : ℕ
  pub rows : List LotteryRow

-- each weight is at least 1, and the total is their sum
pub record TotalAgrees (lottery : Lottery) : Type 0 where
  pub weights : IsTrue (list_all (λ row. nat_le 1 row.weight) lottery.rows)
  pub total : lottery.total ≡ sum_by (λ row. row.weight) lottery.rows

-- at least one row; the panels are different quota panels, each with a weight of at least 1; and the total is the sum of the weights
pub record IsLottery (pool : Pool) (lottery : Lottery) : Type 0 where
  pub some : IsTrue (nat_lt 0 (length lottery.rows))
  pub panels : IsTrue (list_all (λ row. is_quota_panel pool row.panel) lottery.rows)
  pub different : IsTrue (all_different (map (λ row. row.panel) lottery.rows))
  pub total_agrees : TotalAgrees lottery

-- the sum of the weights of the panels with volunteer `i`; the chance of `i` is this over the total
abbrev pub count : Lottery → ℕ → ℕ
count lottery i = sum_by (λ row. row.weight) (filter (λ row. includes row.panel i) lottery.rows)

-- the count of each volunteer
abbrev pub counts : Pool → Lottery → List ℕ
counts pool lottery = map (count lottery) (everybody pool)

-- compares two lists of counts of equal length, each count divided by its list's total: true if the first list is lexicographically greater
abbrev pub first_is_greater : ℕ → ℕ → List ℕ → List ℕ → Bool
first_is_greater first_total second_total [] seconds = false
first_is_greater first_total second_total (first ∷ firsts) [] = false
first_is_greater first_total second_total (first ∷ firsts) (second ∷ seconds) =
    (if first * second_total == second * first_total then first_is_greater first_total second_total firsts seconds
    else nat_lt (second * first_total) (first * second_total))

-- the first lottery's chances, in rising order, are lexicographically greater than the second's
abbrev pub is_above : Pool → Lottery → Lottery → Bool
is_above pool first second =
    first_is_greater first.total second.total (rising (counts pool first)) (rising (counts pool second))

-- a lottery above which there is no other lottery over the pool
pub record LeximinGreatest (pool : Pool) (lottery : Lottery) : Type 0 where
  pub is_lottery : IsLottery pool lottery
  pub none_above : (other : Lottery) → IsLottery pool other → IsFalse (is_above pool other lottery)
