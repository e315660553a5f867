use Rattle.std.proofs.Common.{◌≡◌, true, length}
use Rattle.define_pools.specs.Lists.{is_increasing}
use Rattle.define_searches.proofs.FirstPanel.{filter_increases}
use Rattle.command_browser.specs.NextPools.{is_member}
use Rattle.command_browser.proofs.next_pools.panel_of.Goals as goal

pub unreachable-requires : goal.unreachable-requires
unreachable-requires c =
    let rises : is_increasing c.in_ok-members.members.items ≡ true =
    rw c.in_ok-members.ensures (filter_increases (is_member c.args.marks.now) 0 (length c.volunteers.result.now)) in
    let some = rw rises at c.new.ensures in
    let none = c.in-None.is in
    cc
