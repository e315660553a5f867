use Rattle.std.proofs.Common.{◌≡◌, ◌+◌, ◌<◌, ◌≤◌, ℕ, List, get_or, length, map, take, ap, sym, ◌∙◌, arith}
use Rattle.std.specs.Prelude.{sum}
use Rattle.std.specs.List.{sum_by}
use Rattle.std.proofs.lemmas.List.{length-map, take_all}
use Rattle.std.proofs.lemmas.List.Sums.{sum-map, sum_by_more, sum_by_more_le}
use Rattle.define_pools.specs.Lottery.{LotteryRow}
use Rattle.define_draws.proofs.TicketLemmas.{weight_at}
use Rattle.define_draws.specs.Short.{remainder, tickets_left, whole_tickets}
use Rattle.define_draws.proofs.Tickets.{left-le-length, wholes_within}
use Rattle.short_tickets.specs.Parts.{weights_in}
use Rattle.short_tickets.proofs.rows.left_of.Goals as goal

pub overflow_sub-left : goal.overflow_sub-left
overflow_sub-left c =
    let rows = c.args.rows.now in
    let weights = weights_in rows in
    let j = c.loop-row.row-index in
    let whole : ℕ → ℕ = whole_tickets c.args.total c.args.tickets in
    let room : j < length weights = omega (arith, length-map rows (λ (r : LotteryRow). r.weight)) in
    let here : get_or weights j 0 ≡ c.row-item.result.weight = weight_at rows j c.row-item.result (omega arith) c.row-item.is in
    let this : c.share_of-left.result.whole ≡ whole (get_or weights j 0) = c.share_of-left.ensures.whole ∙ ap whole (sym here) in
    let all : sum_by whole weights ≤ c.args.tickets =
    omega (arith, sum-map whole weights, wholes_within c.args.total c.args.tickets weights c.requires.total c.requires.some) in
    omega (arith, this, all, c.loop-row.invariant, sum_by_more_le whole weights j 0 room)

pub loop-row-preserved : goal.loop-row-preserved
loop-row-preserved c =
    let rows = c.args.rows.now in
    let weights = weights_in rows in
    let j = c.loop-row.row-index in
    let whole : ℕ → ℕ = whole_tickets c.args.total c.args.tickets in
    let room : j < length weights = omega (arith, length-map rows (λ (r : LotteryRow). r.weight)) in
    let here : get_or weights j 0 ≡ c.row-item.result.weight = weight_at rows j c.row-item.result (omega arith) c.row-item.is in
    let this : c.share_of-left.result.whole ≡ whole (get_or weights j 0) = c.share_of-left.ensures.whole ∙ ap whole (sym here) in
    omega (arith, this, overflow_sub-left c, c.loop-row.invariant, sum_by_more whole weights j 0 room)

-- after all rows were read, `left` is the number of tickets that the definition leaves
left_at_end : (total tickets left j : ℕ) (weights : List ℕ) → length weights ≤ j →
    left + sum_by (whole_tickets total tickets) (take j weights) ≡ tickets → left ≡ tickets_left total tickets weights
left_at_end total tickets left j weights l e =
    omega (arith, e, ap (sum_by (whole_tickets total tickets)) (take_all j weights l), sum-map (whole_tickets total tickets) weights)

pub returns-clause-few : goal.returns-clause-few
returns-clause-few c =
    let rows = c.args.rows.now in
    let weights = weights_in rows in
    let size = length-map rows (λ (r : LotteryRow). r.weight) in
    let left = left_at_end c.args.total c.args.tickets c.loop-row.left c.loop-row.row-index weights (omega (arith, size)) c.loop-row.invariant in
    omega (arith, left, size, length-map weights (remainder c.args.total c.args.tickets), left-le-length c.args.total c.args.tickets weights c.requires.total c.requires.some)

pub returns-clause-left : goal.returns-clause-left
returns-clause-left c =
    let rows = c.args.rows.now in
    let size = length-map rows (λ (r : LotteryRow). r.weight) in
    left_at_end c.args.total c.args.tickets c.loop-row.left c.loop-row.row-index (weights_in rows) (omega (arith, size)) c.loop-row.invariant
