use Rattle.std.proofs.Common.{◌≡◌, true}
use Rattle.define_pools.specs.Lists.{is_increasing}
use Rattle.define_searches.specs.Compositions.{first_panel}
use Rattle.define_searches.proofs.PoolClasses.{first_panel_rises}
use Rattle.define_searches.proofs.Taken.{members_are}
use Rattle.check_search.proofs.composing.first_panel.Goals as goal

pub unreachable-requires : goal.unreachable-requires
unreachable-requires c =
    let members : c.in_ok-members.members.items ≡ first_panel c.args.classes.now c.args.composition.now = members_are c.args.classes.now c.args.composition.now _ _ _ c.classes.ensures c.counts.ensures c.volunteers.ensures _ c.in_ok-members.ensures in
    let rises : is_increasing c.in_ok-members.members.items ≡ true = rw members (first_panel_rises c.args.classes.now c.args.composition.now) in
    let some = rw rises at c.new.ensures in
    let none = c.in-None.is in
    cc

pub returns : goal.returns
returns c =
    let members : c.in_ok-members.members.items ≡ first_panel c.args.classes.now c.args.composition.now = members_are c.args.classes.now c.args.composition.now _ _ _ c.classes.ensures c.counts.ensures c.volunteers.ensures _ c.in_ok-members.ensures in
    let rises : is_increasing c.in_ok-members.members.items ≡ true = rw members (first_panel_rises c.args.classes.now c.args.composition.now) in
    let some = rw rises at c.new.ensures in
    let is = c.in-Some.is in
    cc
