-- Which row's range holds a ticket.
use Rattle.std.proofs.Common.{◌≡◌, ℕ, zero, suc, ◌+◌, ◌-◌, ◌<◌, ◌≤◌, Bool, true, false, cond, ltb, List, [], ◌∷◌, length, get_or, map, take, refl, sym, ap, ◌∙◌, arith}
use Rattle.std.specs.Prelude.{sum}
use Rattle.std.proofs.lemmas.Bool.{ltb-true, ltb-false, lt-ltb, le-ltb}
use Rattle.std.proofs.lemmas.List.Sums.{sum_by-cons, sum_by_more, sum_by_more_le}
use Rattle.define_pools.specs.Lottery.{LotteryRow}
use Rattle.define_draws.specs.Tickets.{HoldsTicket, first_ticket, row_of}

-- the sum of a list is its first number plus the sum of the rest
pub sum-cons : (x : ℕ) (xs : List ℕ) → sum (x ∷ xs) ≡ x + sum xs
sum-cons x xs = sum_by-cons (λ n. n) x xs

-- if `ticket` is at least `weight`, and the range of row `row` of `weights` has `ticket - weight`, then the range of row `row + 1` of
-- `weight ∷ weights` has `ticket`
pub holds_behind : (weight : ℕ) (weights : List ℕ) (row ticket : ℕ) → weight ≤ ticket → HoldsTicket weights row (ticket - weight) → HoldsTicket (weight ∷ weights) (suc row) ticket
holds_behind weight weights row ticket l h =
    let e = sum-cons weight (take row weights) in
    record { exists = omega (arith, h.exists); first = omega (arith, e, h.first); below = omega (arith, e, h.below) }

pub row_of_holds : (weights : List ℕ) (ticket : ℕ) → ticket < sum weights → HoldsTicket weights (row_of weights ticket) ticket
row_of_holds [] ticket h = absurd (omega arith)
row_of_holds (weight ∷ weights) ticket h =
    by (ltb ticket weight) refl (λ l. let whole = sum-cons weight weights in row_of_holds weights (ticket - weight) (omega arith))
  where
    by : (b : Bool) → ltb ticket weight ≡ b → (weight ≤ ticket → HoldsTicket weights (row_of weights (ticket - weight)) (ticket - weight)) → HoldsTicket (weight ∷ weights) (cond b 0 (suc (row_of weights (ticket - weight)))) ticket
    by true e rest = let l = ltb-true ticket weight e in record { exists = omega arith; first = omega arith; below = omega (arith, l) }
    by false e rest = let l = ltb-false ticket weight e in holds_behind weight weights (row_of weights (ticket - weight)) ticket l (rest l)

pub only_row : (weights : List ℕ) (row ticket : ℕ) → HoldsTicket weights row ticket → row ≡ row_of weights ticket
only_row [] row ticket h = absurd (omega (arith, h.exists))
only_row (weight ∷ weights) zero ticket h =
    let below : ticket < weight = omega (arith, h.below) in
    rw (lt-ltb ticket weight below) refl
only_row (weight ∷ weights) (suc row) ticket h =
    let e = sum-cons weight (take row weights) in
    let above : weight ≤ ticket = omega (arith, h.first) in
    let rest : HoldsTicket weights row (ticket - weight) = record { exists = omega (arith, h.exists); first = omega (arith, h.first); below = omega (arith, h.below) } in
    rw (le-ltb ticket weight above) (ap suc (only_row weights row (ticket - weight) rest))

-- a row's range ends at the sum of all weights, or before it
pub range_within : (weights : List ℕ) (row : ℕ) → row < length weights → first_ticket weights row + get_or weights row 0 ≤ sum weights
range_within weights row h = sum_by_more_le (λ n. n) weights row 0 h

-- ---- the weights of the rows of a lottery

-- the weight at the place of a row is the row's weight
pub weight_at : (rows : List LotteryRow) (j : ℕ) (row : LotteryRow) → j < length rows → row ≡ get_or rows j row → get_or (map (λ (r : LotteryRow). r.weight) rows) j 0 ≡ row.weight
weight_at [] j row l e = absurd (omega arith)
weight_at (first ∷ rows) zero row l e = ap (λ (r : LotteryRow). r.weight) (sym e)
weight_at (first ∷ rows) (suc j) row l e = weight_at rows j row (omega arith) e

-- the sum of the first `j + 1` weights is the sum of the first `j` plus the next weight
pub sum_pushed : (weights : List ℕ) (j weight : ℕ) → j < length weights → get_or weights j 0 ≡ weight → sum (take (j + 1) weights) ≡ sum (take j weights) + weight
sum_pushed weights j weight l e = sum_by_more (λ n. n) weights j 0 l ∙ ap (λ w. sum (take j weights) + w) e
