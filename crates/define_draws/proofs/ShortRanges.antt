-- A shortened lottery keeps the ranges of a bundle.
use Rattle.std.proofs.Common.{◌≡◌, ℕ, ◌^◌, ◌≤◌, Bool, true, ◌&&◌, leb, ltb, List, [], ◌∷◌, length, refl, sym, ap, ◌∙◌, arith}
use Rattle.std.specs.List.{list_all, sum_by}
use Rattle.std.proofs.lemmas.Bool.{and_from, and_parts, le-leb, leb-true, lt-ltb}
use Rattle.std.proofs.lemmas.List.Sums.{sum_by-cons}
use Rattle.define_pools.proofs.Each.{list_all_implies}
use Rattle.define_bundles.specs.Ranges.{IsInRanges, is_group, is_row, is_weight}
use Rattle.define_draws.specs.Tickets.{weights_of}
use Rattle.define_pools.specs.Certificate.{Answer}
use Rattle.define_pools.specs.Lottery.{Lottery, LotteryRow, TotalAgrees}
use Rattle.define_pools.specs.Pool.{Pool}
use Rattle.define_draws.specs.Short.{shortened, tickets_by_weight}
use Rattle.define_draws.proofs.Rows.{kept_pass, rows_from_weight}

-- if the weights of rows are at least 1 and sum to at most 10^38, and `is_group` is true of each panel, `is_row` is true of each row
rows_in_range : (volunteers : ℕ) (rows : List LotteryRow) → list_all (λ (row : LotteryRow). leb 1 row.weight) rows ≡ true →
    list_all (λ (row : LotteryRow). is_group volunteers row.panel) rows ≡ true → sum_by (λ (row : LotteryRow). row.weight) rows ≤ 10 ^ 38 → list_all (is_row volunteers) rows ≡ true
rows_in_range volunteers [] some groups few = refl
rows_in_range volunteers (row ∷ rows) some groups few =
    let first = and_parts (leb 1 row.weight) (list_all (λ (row : LotteryRow). leb 1 row.weight) rows) some in
    let second = and_parts (is_group volunteers row.panel) (list_all (λ (row : LotteryRow). is_group volunteers row.panel) rows) groups in
    let sum = sum_by-cons (λ (row : LotteryRow). row.weight) row rows in
    let most : leb row.weight (10 ^ 38) ≡ true = le-leb row.weight (10 ^ 38) (omega (arith, sum)) in
    let rest = rows_in_range volunteers rows first.1 second.1 (omega (arith, sum)) in
    and_from (is_row volunteers row) (list_all (is_row volunteers) rows)
    (and_from (is_weight row.weight) (is_group volunteers row.panel) (and_from (leb 1 row.weight) (leb row.weight (10 ^ 38)) first.0 most) second.0) rest

groups_of_rows : (volunteers : ℕ) (rows : List LotteryRow) → list_all (is_row volunteers) rows ≡ true → list_all (λ (row : LotteryRow). is_group volunteers row.panel) rows ≡ true
groups_of_rows volunteers rows are =
    list_all_implies (is_row volunteers) (λ (row : LotteryRow). is_group volunteers row.panel)
    (λ row h. (and_parts (is_weight row.weight) (is_group volunteers row.panel) h).1) rows are

pub short_in_ranges : (pool : Pool) (answer : Answer) (tickets : ℕ) → IsInRanges pool answer → 1 ≤ tickets → tickets ≤ 10 ^ 9 → TotalAgrees (shortened answer.lottery tickets) →
    IsInRanges pool (record { lottery = shortened answer.lottery tickets; stages = answer.stages })
short_in_ranges pool answer tickets are some few agrees =
    let lottery = answer.lottery in
    let volunteers = length pool.volunteers in
    let rows = (shortened lottery tickets).rows in
    let groups = kept_pass (is_group volunteers) lottery.rows (tickets_by_weight lottery.total tickets (weights_of lottery)) (groups_of_rows volunteers lottery.rows are.rows) in
    record {
      total = and_from (leb 1 tickets) (leb tickets (10 ^ 38)) (le-leb 1 tickets some) (le-leb tickets (10 ^ 38) (omega arith));
      some_row = lt-ltb 0 (length rows) (rows_from_weight rows (omega (arith, agrees.total)));
      rows = rows_in_range volunteers rows agrees.weights groups (omega (arith, agrees.total));
      some_stage = are.some_stage;
      stages = are.stages;
    }

pub total_from_ranges : (pool : Pool) (answer : Answer) → IsInRanges pool answer → (1 ≤ answer.lottery.total) × (answer.lottery.total ≤ 10 ^ 38)
total_from_ranges pool answer are =
    let parts = and_parts (leb 1 answer.lottery.total) (leb answer.lottery.total (10 ^ 38)) are.total in
    (leb-true 1 answer.lottery.total parts.0, leb-true answer.lottery.total (10 ^ 38) parts.1)
