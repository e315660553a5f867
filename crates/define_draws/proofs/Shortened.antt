-- The laws on tickets and rows, applied to a shortened lottery.
use Rattle.std.proofs.Common.{◌≡◌, ℕ, ◌*◌, ◌<◌, ◌≤◌, List, get_or, length, map, sym, ap, ap₂, ◌∙◌, arith}
use Rattle.std.specs.Prelude.{sum}
use Rattle.std.proofs.lemmas.Bool.{lt-ltb, ltb-true}
use Rattle.std.proofs.lemmas.List.{length-map}
use Rattle.std.proofs.lemmas.List.FromFn.{get_or-map-range_with_len, length-map-range_with_len}
use Rattle.define_draws.specs.Tickets.{weights_of}
use Rattle.define_pools.specs.Lottery.{IsLottery, Lottery, LotteryRow, TotalAgrees, count}
use Rattle.define_pools.specs.Pool.{Pool, is_quota_panel}
use Rattle.define_pools.proofs.Greatest.{count-is}
use Rattle.define_pools.proofs.Weights.{counted}
use Rattle.define_draws.specs.Shares.{distance, distance_from_share, panels_with}
use Rattle.define_draws.specs.Short.{rows_with_tickets, shortened, tickets_at, tickets_by_weight}
use Rattle.define_draws.proofs.Rows.{counted-moves, kept_differ, kept_have_tickets, kept_pass, rows_from_weight, sum-kept, weight_from_rows}
use Rattle.define_draws.proofs.Tickets.{near_share, sum-tickets}
use Rattle.define_draws.proofs.Totals.{total_is}

pub length-tickets : (lottery : Lottery) (tickets : ℕ) → length (tickets_by_weight lottery.total tickets (weights_of lottery)) ≡ length lottery.rows
length-tickets lottery tickets =
    length-map-range_with_len (tickets_at lottery.total tickets (weights_of lottery)) 0 (length (weights_of lottery)) ∙ length-map lottery.rows (λ (row : LotteryRow). row.weight)

pub agrees_shortened : (lottery : Lottery) (tickets : ℕ) → TotalAgrees lottery → 1 ≤ lottery.total → TotalAgrees (shortened lottery tickets)
agrees_shortened lottery tickets agrees some =
    let counts = tickets_by_weight lottery.total tickets (weights_of lottery) in
    record {
      weights = kept_have_tickets lottery.rows counts;
      total = sym (sum-kept lottery.rows counts (length-tickets lottery tickets) ∙ sum-tickets lottery.total tickets (weights_of lottery) (total_is lottery agrees) some);
    }

pub count_moves : (lottery : Lottery) (tickets i : ℕ) → TotalAgrees lottery → 1 ≤ lottery.total →
    distance (count (shortened lottery tickets) i * lottery.total) (count lottery i * tickets) ≤ panels_with lottery i * lottery.total
count_moves lottery tickets i agrees some =
    let weights = weights_of lottery in
    let counts = tickets_by_weight lottery.total tickets weights in
    let size : length weights ≡ length lottery.rows = length-map lottery.rows (λ (row : LotteryRow). row.weight) in
    let moves = counted-moves lottery.rows counts lottery.total tickets i (length-tickets lottery tickets)
    (λ place l.
    let inside : place < length weights = omega arith in
    let near = near_share lottery.total tickets weights (total_is lottery agrees) some place inside in
    let at : get_or counts place 0 ≡ tickets_at lottery.total tickets weights place =
    get_or-map-range_with_len (tickets_at lottery.total tickets weights) 0 (length weights) place place 0 inside (omega arith) in
    let same : distance_from_share lottery.total tickets (get_or weights place 0) (get_or counts place 0)
    ≡ distance_from_share lottery.total tickets (get_or weights place 0) (tickets_at lottery.total tickets weights place) =
    ap (distance_from_share lottery.total tickets (get_or weights place 0)) at in
    near_enough same near) in
    let short : count (shortened lottery tickets) i ≡ counted (rows_with_tickets lottery.rows counts) i = count-is (shortened lottery tickets) i in
    rw (short, count-is lottery i) moves
  where
    near_enough : {a b t : ℕ} → a ≡ b → b < t → a ≤ t
    near_enough e l = omega arith

-- the total of a lottery is at least 1
some_total : (pool : Pool) (lottery : Lottery) → IsLottery pool lottery → 1 ≤ lottery.total
some_total pool lottery is =
    let some = weight_from_rows lottery.rows (ltb-true 0 (length lottery.rows) is.some) is.total_agrees.weights in
    omega (arith, some, is.total_agrees.total)

pub is_lottery_shortened : (pool : Pool) (lottery : Lottery) (tickets : ℕ) → IsLottery pool lottery → 1 ≤ tickets → IsLottery pool (shortened lottery tickets)
is_lottery_shortened pool lottery tickets is some =
    let counts = tickets_by_weight lottery.total tickets (weights_of lottery) in
    let agrees = agrees_shortened lottery tickets is.total_agrees (some_total pool lottery is) in
    record {
      some = lt-ltb 0 (length (shortened lottery tickets).rows) (rows_from_weight (shortened lottery tickets).rows (omega (arith, agrees.total)));
      panels = kept_pass (is_quota_panel pool) lottery.rows counts is.panels;
      different = kept_differ lottery.rows counts is.different;
      total_agrees = agrees;
    }
