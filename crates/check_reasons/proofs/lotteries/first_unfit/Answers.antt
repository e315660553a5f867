use Rattle.std.proofs.Common.{◌≡◌, not, Some, true, false, sym, ap, ◌∙◌}
use Rattle.define_pools.specs.Lottery.{LotteryRow}
use Rattle.define_pools.specs.Pool.{is_quota_panel as is_quota}
use Rattle.check_reasons.proofs.InOrder.{found_here, found_later}
use Rattle.check_reasons.proofs.lotteries.first_unfit.Goals as goal

pub returns-then-not-fits : goal.returns-then-not-fits
returns-then-not-fits c =
    let said : is_quota c.args.pool.now c.row-item.result.panel ≡ false = ap (is_quota c.args.pool.now) (sym c.panel.ensures) ∙ sym c.in_ok-fits.ensures ∙ c.if-not-fits.true in
    ap Some c.panel-then-not-fits.ensures
    ∙ found_here (λ panel. not (is_quota c.args.pool.now panel)) (λ (row : LotteryRow). row.panel) c.args.rows.now c.loop-row.row-index c.row-item.result c.loop-row-test.true c.row-item.is c.loop-row.invariant (ap not said)

pub loop-row-preserved : goal.loop-row-preserved
loop-row-preserved c =
    let said : is_quota c.args.pool.now c.row-item.result.panel ≡ true = ap (is_quota c.args.pool.now) (sym c.panel.ensures) ∙ sym c.in_ok-fits.ensures ∙ c.if-not-fits.false in
    found_later (λ panel. not (is_quota c.args.pool.now panel)) (λ (row : LotteryRow). row.panel) c.args.rows.now c.loop-row.row-index c.row-item.result c.loop-row-test.true c.row-item.is c.loop-row.invariant (ap not said)
