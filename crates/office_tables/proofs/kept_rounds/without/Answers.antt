use Rattle.office_tables.proofs.TakenRounds.{one_more-without}
use Rattle.office_tables.proofs.kept_rounds.without.Goals as goal

pub loop-name-preserved : goal.loop-name-preserved
loop-name-preserved c =
    one_more-without c.args.id.now c.args.names.now c.loop-name.others.items c.push_other.new.others.items c.loop-name.name-index c.name-item.result
    c.loop-name-test.true c.name-item.is c.loop-name.invariant c.in_ok-push_other.ensures
