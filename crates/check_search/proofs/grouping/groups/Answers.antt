use Rattle.check_search.specs.Likeness.{count_of, is_alike}
use Rattle.check_search.proofs.Leaders.{leader_below}
use Rattle.check_search.proofs.grouping.groups.Goals as goal

pub group-requires-clause-below : goal.group-requires-clause-below
group-requires-clause-below c =
    let likeness = c.args.likeness.now in let leaders = c.args.leaders.now in let k = c.loop-leader.leader-index in
    leader_below (is_alike likeness) (count_of likeness) leaders k c.requires.leaders c.loop-leader-test.true
