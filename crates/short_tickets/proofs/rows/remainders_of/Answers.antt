use Rattle.std.proofs.Common.{◌≡◌, ◌<◌, ◌++◌, ◌∷◌, [], ℕ, List, get_or, length, map, take, ap, ap₂, sym, ◌∙◌, arith}
use Rattle.std.proofs.lemmas.List.{length-map, map_more}
use Rattle.define_pools.specs.Lottery.{LotteryRow}
use Rattle.define_draws.proofs.TicketLemmas.{weight_at}
use Rattle.define_draws.specs.Short.{remainder}
use Rattle.short_tickets.specs.Parts.{weights_in}
use Rattle.short_tickets.proofs.rows.remainders_of.Goals as goal

pub loop-row-preserved : goal.loop-row-preserved
loop-row-preserved c =
    let rows = c.args.rows.now in
    let weights = weights_in rows in
    let j = c.loop-row.row-index in
    let inside : j < length rows = omega arith in
    let room : j < length weights = omega (arith, length-map rows (λ (r : LotteryRow). r.weight)) in
    let here : get_or weights j 0 ≡ c.row-item.result.weight = weight_at rows j c.row-item.result inside c.row-item.is in
    let this : c.share_of.result.remainder ≡ remainder c.args.total c.args.tickets (get_or weights j 0) =
    c.share_of.ensures.remainder ∙ ap (remainder c.args.total c.args.tickets) (sym here) in
    c.in_ok-push.ensures.items ∙ (ap₂ (λ (done : List ℕ) (next : ℕ). done ++ next ∷ []) c.loop-row.invariant this ∙ sym (map_more (remainder c.args.total c.args.tickets) weights j 0 room))
