use Rattle.std.proofs.Common.{◌≡◌, ◌∙◌, ◌++◌, ℤ, FitsSigned, to_z, of_z, unsigned_abs, Some, rules, sym, ap, subst}
use Rattle.std.specs.Int.{w128}
use Rattle.std.proofs.lemmas.Int.{to_z-of_z}
use Rattle.std.proofs.lemmas.Result.{on_ok_weaker}
use Rattle.define_lines.specs.Lines.{text_of}
use Rattle.define_pools.specs.Certificate.{Answer}
use Rattle.define_pools.specs.Lottery.{Lottery}
use Rattle.define_pools.specs.Pool.{Pool}
use Rattle.define_offices.specs.Report.{draw_lines, lottery_lines, seal_lines}
use Rattle.define_offices.proofs.LineSteps.{lines_added}
use Rattle.office_reports.specs.Rounds.{IsDrawnIn}
use Rattle.office_reports.proofs.DrawnRounds.{drawn_lines_are}
use Rattle.office_reports.proofs.reports.push_bundle.Goals as goal

pub returns-in-Some-drawn : goal.returns-in-Some-drawn
returns-in-Some-drawn c =
    let round = c.args.round.now in
    let bundle = c.in-Some.bundle in
    let drawn = c.in-Some-drawn.drawn in
    let tickets = c.tickets.result.now in
    let digits = c.digits.result.now in
    let lottery : c.lottery.result.now ≡ bundle.answer.lottery = c.lottery.ensures ∙ ap (λ (answer : Answer). answer.lottery) c.answer.ensures.value in
    let with_lottery : c.push_lottery.new.text.items ≡ c.args.text.now.items ++ text_of (lottery_lines bundle.answer.lottery) =
    c.in_ok-push_lottery.ensures ∙ ap (λ (l : Lottery). c.args.text.now.items ++ text_of (lottery_lines l)) lottery in
    let with_seal = lines_added c.args.text.now.items c.push_lottery.new.text.items c.push_seal_lines.new.text.items (lottery_lines bundle.answer.lottery) (seal_lines bundle tickets) with_lottery c.in_ok-push_seal_lines.ensures in
    let fits : FitsSigned w128 drawn.ticket = search rules in
    let here : IsDrawnIn round (Some drawn) = subst (IsDrawnIn round) c.in-Some-drawn.is c.requires in
    let lines = drawn_lines_are round bundle tickets digits drawn (sym c.bundle.ensures ∙ c.in-Some.is) here c.tickets.ensures c.digits.ensures in
    on_ok_weaker c.push_draw.result
    (λ e.
    lines_added c.args.text.now.items c.push_seal_lines.new.text.items c.push_draw.new.text.items (lottery_lines bundle.answer.lottery ++ seal_lines bundle tickets)
    (draw_lines bundle.pool digits (record { ticket = unsigned_abs drawn.ticket; used = drawn.used; panel = drawn.panel })) with_seal
    (e
    ∙ (ap (λ (pool : Pool). c.push_seal_lines.new.text.items ++ text_of (draw_lines pool digits (record { ticket = unsigned_abs (to_z w128 (of_z w128 drawn.ticket)); used = drawn.used; panel = drawn.panel }))) c.pool.ensures
    ∙ ap (λ (n : ℤ). c.push_seal_lines.new.text.items ++ text_of (draw_lines bundle.pool digits (record { ticket = unsigned_abs n; used = drawn.used; panel = drawn.panel }))) (to_z-of_z w128 drawn.ticket fits)))
    ∙ ap (λ lines. c.args.text.now.items ++ text_of lines) lines)
    c.push_draw.ensures
