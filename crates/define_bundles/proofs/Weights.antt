-- What the ranges say of the weights of a lottery.
use Rattle.std.proofs.Common.{◌≡◌, ◌^◌, ℕ, true, leb, List}
use Rattle.std.specs.List.{list_all}
use Rattle.std.proofs.lemmas.Bool.{and_parts}
use Rattle.define_pools.proofs.Each.{list_all_implies}
use Rattle.define_pools.specs.Lottery.{LotteryRow}
use Rattle.define_bundles.specs.Ranges.{is_group, is_row, is_weight}

-- if `is_row` holds of all rows, each weight is at least 1
pub positive_weights : (volunteers : ℕ) (rows : List LotteryRow) → list_all (is_row volunteers) rows ≡ true → list_all (λ (row : LotteryRow). leb 1 row.weight) rows ≡ true
positive_weights volunteers rows are =
    list_all_implies (is_row volunteers) (λ row. leb 1 row.weight)
    (λ row h. (and_parts (leb 1 row.weight) (leb row.weight (10 ^ 38)) (and_parts (is_weight row.weight) (is_group volunteers row.panel) h).0).0) rows are
