use Rattle.std.proofs.Common.{◌≡◌, ◌∙◌, ap, subst}
use Rattle.define_pools.specs.Certificate.{Answer}
use Rattle.define_pools.specs.Lottery.{Lottery}
use Rattle.sealed_draw.specs.Answers.{DrawSays}
use Rattle.sealed_draw.proofs.DrawnRow.{drawn_row}
use Rattle.sealed_draw.proofs.drawing.draw.Goals as goal

pub returns-clause-row : goal.returns-clause-row
returns-clause-row c =
    let lottery = c.args.bundle.now.answer.lottery in
    let same : c.lottery.result.now ≡ lottery = c.lottery.ensures ∙ ap (λ (a : Answer). a.lottery) c.answer.ensures.value in
    drawn_row lottery c.args.kept.now c.args.given.now c.args.digits.now c.draw_from.result c.requires c.answer.ensures.in_ranges.total
    (subst (λ (l : Lottery). DrawSays l c.args.kept.now c.args.given.now c.args.digits.now c.draw_from.result) same c.draw_from.ensures)
