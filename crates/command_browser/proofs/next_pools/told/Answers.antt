use Rattle.command_browser.proofs.NextTold.{next_told}
use Rattle.command_browser.proofs.next_pools.told.Goals as goal

pub returns : goal.returns
returns c =
    next_told c.args.marks.now c.args.pool.now c.in_ok-next.next c.volunteers.result.now c.in_ok-panel.panel c.in_ok-drops.drops.items c.deref.result.now
    c.in_ok-write_pool.field-0.items c.in_ok-panel.ensures c.volunteers.ensures c.in_ok-drops.ensures c.deref.ensures.value c.in_ok-next.ensures
    c.in_ok-write_pool.ensures.spelled
