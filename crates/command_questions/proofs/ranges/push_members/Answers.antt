use Rattle.std.proofs.Common.{◌<◌, ◌∙◌, get_or, length}
use Rattle.define_pools.proofs.Each.{below_at}
use Rattle.define_bundles.proofs.PanelLines.{one_id}
use Rattle.command_questions.proofs.ranges.push_members.Goals as goal

pub loop-number-preserved : goal.loop-number-preserved
loop-number-preserved c =
    let members = c.args.members.now in
    let inside : get_or members c.loop-number.number-index 0 < length c.args.volunteers.now =
    below_at (length c.args.volunteers.now) members c.loop-number.number-index c.requires c.loop-number-test.true in
    one_id c.args.text.now.items c.args.volunteers.now members c.loop-number.number-index _ _ c.index-volunteers-number.result
    c.loop-number.invariant c.loop-number-test.true (rw (c.as_bytes.ensures ∙ c.id.ensures) at c.in_ok-push_field.ensures.whole)
    c.index-volunteers-number.is inside
