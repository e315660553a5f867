use Rattle.std.proofs.Common.{◌≡◌, ℕ, ◌+◌, ◌<◌, ◌≤◌, ◌++◌, ◌∷◌, [], List, get_or, length, take, unsigned_abs, ap, sym, ◌∙◌, subst, arith, rules}
use Rattle.std.specs.Prelude.{FitsSigned}
use Rattle.std.specs.Int.{w128}
use Rattle.std.proofs.lemmas.Int.{to_z-of_z}
use Rattle.std.proofs.lemmas.List.{length-map, take_all}
use Rattle.define_pools.specs.Lottery.{LotteryRow}
use Rattle.define_draws.specs.Tickets.{weights_of}
use Rattle.tickets.specs.Ends.{Rise, gaps}
use Rattle.define_draws.proofs.TicketLemmas.{sum_pushed, weight_at}
use Rattle.tickets.proofs.Ends.{end_pushed, ends-rise, ends_of, gaps-ends}
use Rattle.tickets.proofs.ranges.table.Goals as goal

pub loop-row-preserved : goal.loop-row-preserved
loop-row-preserved c =
    let rows = c.args.lottery.now.rows in
    let j = c.loop-row.row-index in
    let weights = weights_of c.args.lottery.now in
    let row = c.row-item.result in
    let inside : j < length rows = omega (arith, ap (λ (rs : List LotteryRow). length rs) c.rows-row-items.ensures.value) in
    let same : row ≡ get_or rows j row = c.row-item.is ∙ ap (λ rs. get_or rs j row) c.rows-row-items.ensures.value in
    let here : get_or weights j 0 ≡ row.weight = weight_at rows j row inside same in
    let fits : FitsSigned w128 c.weight.result = search rules in
    let weight : c.unsigned_abs-end.result ≡ row.weight =
    c.unsigned_abs-end.ensures.value ∙ ap unsigned_abs (to_z-of_z w128 c.weight.result fits ∙ c.weight.ensures) in
    let this : get_or weights j 0 ≡ c.unsigned_abs-end.result = here ∙ sym weight in
    let room : j < length weights = omega (arith, inside, length-map rows (λ (r : LotteryRow). r.weight)) in
    let end = c.unsigned_abs-end.result in
    record {
      ends = c.in_ok-push.ensures.items ∙ (ap (λ ends. ends ++ (c.loop-row.end + end) ∷ []) c.loop-row.invariant.ends
          ∙ (ap (λ last. ends_of 0 (take j weights) ++ (last + end) ∷ []) c.loop-row.invariant.last ∙ sym (end_pushed weights j end room this)));
      last = ap (λ last. last + end) c.loop-row.invariant.last ∙ sym (sum_pushed weights j end room this);
    }

-- if all weights were read, the ends read so far are those of all weights
all_ends : (weights ends : List ℕ) (j : ℕ) → length weights ≤ j → ends ≡ ends_of 0 (take j weights) → ends ≡ ends_of 0 weights
all_ends weights ends j l e = e ∙ ap (ends_of 0) (take_all j weights l)

pub invariant_of-result : goal.invariant_of-result
invariant_of-result c =
    let weights = weights_of c.args.lottery.now in
    let size = length-map c.args.lottery.now.rows (λ (r : LotteryRow). r.weight) in
    let rows = ap (λ (rs : List LotteryRow). length rs) c.rows-row-items.ensures.value in
    let all = all_ends weights c.loop-row.ends.items c.loop-row.row-index (omega (arith, size, rows)) c.loop-row.invariant.ends in
    subst (λ ends. Rise 0 ends) (sym all) (ends-rise 0 weights)

pub returns : goal.returns
returns c =
    let weights = weights_of c.args.lottery.now in
    let size = length-map c.args.lottery.now.rows (λ (r : LotteryRow). r.weight) in
    let rows = ap (λ (rs : List LotteryRow). length rs) c.rows-row-items.ensures.value in
    let all = all_ends weights c.loop-row.ends.items c.loop-row.row-index (omega (arith, size, rows)) c.loop-row.invariant.ends in
    ap (gaps 0) all ∙ gaps-ends 0 weights
