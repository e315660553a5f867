-- The rows of a lottery, one after the other: their tickets and their members.
use Rattle.std.proofs.Common.{◌≡◌, ℕ, ◌+◌, ◌<◌, ◌≤◌, true, ◌&&◌, ltb, leb, length, get_or, sym, subst, arith}
use Rattle.std.specs.List.{list_all}
use Rattle.std.proofs.lemmas.Bool.{and_parts, leb-true}
use Rattle.std.proofs.lemmas.List.{length-map}
use Rattle.std.proofs.lemmas.List.Sums.{sum-map}
use Rattle.define_pools.proofs.Each.{passes_at}
use Rattle.define_bundles.specs.Ranges.{is_row, is_weight}
use Rattle.define_draws.proofs.TicketLemmas.{range_within, sum_pushed, weight_at}
use Rattle.define_draws.specs.Tickets.{first_ticket, weights_of}
use Rattle.define_pools.specs.Lists.{is_increasing}
use Rattle.define_pools.specs.Lottery.{Lottery, LotteryRow, TotalAgrees}

module _ (lottery : Lottery) (j : ℕ) (row : LotteryRow) (inside : j < length lottery.rows) (same : row ≡ get_or lottery.rows j row) where
  its_weight : get_or (weights_of lottery) j 0 ≡ row.weight
  its_weight = weight_at lottery.rows j row inside same

  room : j < length (weights_of lottery)
  room = omega (arith, inside, length-map lottery.rows (λ (r : LotteryRow). r.weight))

  pub row_next : first_ticket (weights_of lottery) (j + 1) ≡ first_ticket (weights_of lottery) j + row.weight
  row_next = sum_pushed (weights_of lottery) j row.weight room its_weight

  pub row_tickets : TotalAgrees lottery → first_ticket (weights_of lottery) j + row.weight ≤ lottery.total
  row_tickets agrees =
      omega (arith, range_within (weights_of lottery) j room, its_weight, sum-map (λ (r : LotteryRow). r.weight) lottery.rows, agrees.total)

  pub row_some : TotalAgrees lottery → 1 ≤ row.weight
  row_some agrees =
      let some = leb-true 1 (get_or lottery.rows j row).weight (passes_at (λ (r : LotteryRow). leb 1 r.weight) lottery.rows j row agrees.weights inside) in
      subst (λ (r : LotteryRow). 1 ≤ r.weight) (sym same) some

  pub row_members : (volunteers : ℕ) → list_all (is_row volunteers) lottery.rows ≡ true → list_all (λ i. ltb i volunteers) row.panel ≡ true
  row_members volunteers all =
      let here : is_row volunteers row ≡ true = subst (λ (r : LotteryRow). is_row volunteers r ≡ true) (sym same) (passes_at (is_row volunteers) lottery.rows j row all inside) in
      let group = (and_parts (is_weight row.weight) (ltb 0 (length row.panel) && is_increasing row.panel && list_all (λ i. ltb i volunteers) row.panel) here).1 in
      (and_parts (ltb 0 (length row.panel) && is_increasing row.panel) (list_all (λ i. ltb i volunteers) row.panel) group).1
