use Rattle.std.proofs.Common.{◌≡◌, ◌≤◌, ℤ, ap, ◌∙◌, sym, subst, arith, rules, List, unsigned_abs}
use Rattle.std.specs.Prelude.{FitsSigned}
use Rattle.std.specs.Int.{w128}
use Rattle.std.proofs.lemmas.Int.{to_z-of_z}
use Rattle.define_pools.specs.Lottery.{Lottery, LotteryRow}
use Rattle.short_tickets.specs.Parts.{AreWithin}
use Rattle.short_tickets.proofs.RowLemmas.{made_agrees, within_sum}
use Rattle.short_tickets.proofs.shortening.shorten.Goals as goal

pub remainders_of-requires-clause-within : goal.remainders_of-requires-clause-within
remainders_of-requires-clause-within c =
    let lottery = c.args.lottery.now in
    let fits : FitsSigned w128 c.total.result = search rules in
    let total : c.unsigned_abs-total.result ≡ lottery.total = c.unsigned_abs-total.ensures.value ∙ ap unsigned_abs (to_z-of_z w128 c.total.result fits ∙ c.total.ensures) in
    let within = within_sum c.unsigned_abs-total.result lottery.rows (omega (arith, total, c.requires.agrees.total)) in
    subst (λ (rs : List LotteryRow). AreWithin c.unsigned_abs-total.result rs) (sym c.rows-rows.ensures.value) within

pub left_of-requires-clause-within : goal.left_of-requires-clause-within
left_of-requires-clause-within c =
    let lottery = c.args.lottery.now in
    let fits : FitsSigned w128 c.total.result = search rules in
    let total : c.unsigned_abs-total.result ≡ lottery.total = c.unsigned_abs-total.ensures.value ∙ ap unsigned_abs (to_z-of_z w128 c.total.result fits ∙ c.total.ensures) in
    let within = within_sum c.unsigned_abs-total.result lottery.rows (omega (arith, total, c.requires.agrees.total)) in
    subst (λ (rs : List LotteryRow). AreWithin c.unsigned_abs-total.result rs) (sym c.rows-rows.ensures.value) within

pub rows_with_tickets-requires-clause-within : goal.rows_with_tickets-requires-clause-within
rows_with_tickets-requires-clause-within c =
    let lottery = c.args.lottery.now in
    let fits : FitsSigned w128 c.total.result = search rules in
    let total : c.unsigned_abs-total.result ≡ lottery.total = c.unsigned_abs-total.ensures.value ∙ ap unsigned_abs (to_z-of_z w128 c.total.result fits ∙ c.total.ensures) in
    let within = within_sum c.unsigned_abs-total.result lottery.rows (omega (arith, total, c.requires.agrees.total)) in
    subst (λ (rs : List LotteryRow). AreWithin c.unsigned_abs-total.result rs) (sym c.rows-rows.ensures.value) within

pub returns-clause-agrees : goal.returns-clause-agrees
returns-clause-agrees c =
    let lottery = c.args.lottery.now in
    let fits : FitsSigned w128 c.total.result = search rules in
    let total : c.unsigned_abs-total.result ≡ lottery.total = c.unsigned_abs-total.ensures.value ∙ ap unsigned_abs (to_z-of_z w128 c.total.result fits ∙ c.total.ensures) in
    let stored = to_z-of_z w128 c.args.tickets c.ranges.tickets in
    let count : c.unsigned_abs-count.result ≡ unsigned_abs c.args.tickets = c.unsigned_abs-count.ensures.value ∙ ap unsigned_abs stored in
    let made = c.new.ensures ∙ ap (λ (z : ℤ). let l : Lottery = record { total = unsigned_abs z; rows = c.in_ok-kept.kept.items } in l) stored in
    made_agrees lottery c.new.result c.rows-rows.result.now c.in_ok-kept.kept.items c.unsigned_abs-total.result c.unsigned_abs-count.result (unsigned_abs c.args.tickets)
    total c.rows-rows.ensures.value count c.in_ok-kept.ensures made c.requires.agrees c.requires.some
