use Rattle.std.proofs.Common.{◌≡◌, not, Some, true, false, sym, ap, ◌∙◌}
use Rattle.std.specs.Ordering.{int_eq}
use Rattle.define_pools.specs.Certificate.{panel_weight}
use Rattle.define_pools.specs.Lottery.{LotteryRow}
use Rattle.check_reasons.proofs.InOrder.{found_here, found_later}
use Rattle.check_reasons.proofs.courses.first_off_cap.Goals as goal

pub returns-then-not-weighs_cap : goal.returns-then-not-weighs_cap
returns-then-not-weighs_cap c =
    let stage = c.args.stage.now in
    let said : int_eq (panel_weight stage c.row-item.result.panel) stage.cap ≡ false = ap (λ panel. int_eq (panel_weight stage panel) stage.cap) (sym c.panel.ensures) ∙ sym c.weighs_cap.ensures ∙ c.if-not-weighs_cap.true in
    ap Some c.panel-then-not-weighs_cap.ensures
    ∙ found_here (λ panel. not (int_eq (panel_weight stage panel) stage.cap)) (λ (row : LotteryRow). row.panel) c.args.rows.now c.loop-row.row-index c.row-item.result c.loop-row-test.true c.row-item.is c.loop-row.invariant (ap not said)

pub loop-row-preserved : goal.loop-row-preserved
loop-row-preserved c =
    let stage = c.args.stage.now in
    let said : int_eq (panel_weight stage c.row-item.result.panel) stage.cap ≡ true = ap (λ panel. int_eq (panel_weight stage panel) stage.cap) (sym c.panel.ensures) ∙ sym c.weighs_cap.ensures ∙ c.if-not-weighs_cap.false in
    found_later (λ panel. not (int_eq (panel_weight stage panel) stage.cap)) (λ (row : LotteryRow). row.panel) c.args.rows.now c.loop-row.row-index c.row-item.result c.loop-row-test.true c.row-item.is c.loop-row.invariant (ap not said)
