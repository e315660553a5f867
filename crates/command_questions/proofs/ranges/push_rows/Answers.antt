use Rattle.std.proofs.Common.{◌≡◌, ℕ, ◌+◌, ◌<◌, List, [], ◌∷◌, ◌++◌, get_or, length, unsigned_abs, FitsSigned, ap, sym, ◌∙◌, arith, rules}
use Rattle.std.specs.Int.{w128}
use Rattle.std.proofs.lemmas.Int.{to_z-of_z}
use Rattle.define_draws.specs.Tickets.{first_ticket, weights_of}
use Rattle.define_lines.specs.Lines.{text_of}
use Rattle.define_pools.specs.Lottery.{LotteryRow}
use Rattle.define_offices.proofs.LineSteps.{line_of_each}
use Rattle.command_questions.specs.Tickets.{row_line}
use Rattle.command_questions.proofs.Rows.{row_members, row_next, row_some, row_tickets}
use Rattle.command_questions.proofs.ranges.push_rows.Goals as goal

pub push_row-requires-clause-tickets : goal.push_row-requires-clause-tickets
push_row-requires-clause-tickets c =
    let rows = c.args.lottery.now.rows in
    let j = c.loop-place.place in
    let row = c.row-item.result in
    let inside : j < length rows = omega (arith, ap (λ (rs : List LotteryRow). length rs) c.rows-row-items.ensures.value) in
    let same : row ≡ get_or rows j row = c.row-item.is ∙ ap (λ rs. get_or rs j row) c.rows-row-items.ensures.value in
    omega (arith, row_tickets c.args.lottery.now j row inside same c.requires.agrees, c.loop-place.invariant.first, c.requires.total)

pub push_row-requires-clause-members : goal.push_row-requires-clause-members
push_row-requires-clause-members c =
    let rows = c.args.lottery.now.rows in
    let j = c.loop-place.place in
    let row = c.row-item.result in
    let inside : j < length rows = omega (arith, ap (λ (rs : List LotteryRow). length rs) c.rows-row-items.ensures.value) in
    let same : row ≡ get_or rows j row = c.row-item.is ∙ ap (λ rs. get_or rs j row) c.rows-row-items.ensures.value in
    row_members c.args.lottery.now j row inside same (length c.args.volunteers.now) c.requires.rows

pub push_row-requires-clause-some : goal.push_row-requires-clause-some
push_row-requires-clause-some c =
    let rows = c.args.lottery.now.rows in
    let j = c.loop-place.place in
    let row = c.row-item.result in
    let inside : j < length rows = omega (arith, ap (λ (rs : List LotteryRow). length rs) c.rows-row-items.ensures.value) in
    let same : row ≡ get_or rows j row = c.row-item.is ∙ ap (λ rs. get_or rs j row) c.rows-row-items.ensures.value in
    row_some c.args.lottery.now j row inside same c.requires.agrees

pub loop-place-preserved : goal.loop-place-preserved
loop-place-preserved c =
    let lottery = c.args.lottery.now in
    let rows = lottery.rows in
    let volunteers = c.args.volunteers.now in
    let j = c.loop-place.place in
    let row = c.row-item.result in
    let before = c.loop-place.text.items in
    let inside : j < length rows = omega (arith, ap (λ (rs : List LotteryRow). length rs) c.rows-row-items.ensures.value) in
    let same : row ≡ get_or rows j row = c.row-item.is ∙ ap (λ rs. get_or rs j row) c.rows-row-items.ensures.value in
    let fits : FitsSigned w128 c.weight.result = search rules in
    let weight : c.unsigned_abs-weight.result ≡ row.weight =
    c.unsigned_abs-weight.ensures.value ∙ ap unsigned_abs (to_z-of_z w128 c.weight.result fits ∙ c.weight.ensures) in
    let line : ℕ × LotteryRow → List ℕ = λ (place, r). row_line volunteers (first_ticket (weights_of lottery) place) (place + 1) r in
    let added : c.push_row.new.text.items ≡ before ++ text_of (line (j, row) ∷ []) =
    c.in_ok-push_row.ensures ∙ ap (λ first. before ++ text_of (row_line volunteers first (j + 1) row ∷ [])) c.loop-place.invariant.first in
    record {
      first = ap (λ w. c.loop-place.first + w) weight ∙ ap (λ f. f + row.weight) c.loop-place.invariant.first ∙ sym (row_next lottery j row inside same);
      written = line_of_each rows j row inside same line c.args.text.now.items before c.push_row.new.text.items c.loop-place.invariant.written added;
    }
