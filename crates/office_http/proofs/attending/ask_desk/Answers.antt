use Rattle.office_requests.specs.Askings.{seen_asking}
use Rattle.office_http.proofs.Answering.{answered, unread}
use Rattle.office_http.specs.Visits.{kept}
use Rattle.office_http.proofs.attending.ask_desk.Goals as goal

pub returns-in-Ok-clause-answer : goal.returns-in-Ok-clause-answer
returns-in-Ok-clause-answer g c =
    answered (g.L.Link.left c.args.link.now) (kept (g.K.Keeper.tables c.args.keeper.now) (g.K.Keeper.faults c.args.keeper.now) (g.K.Keeper.course c.args.keeper.now))
    (kept (g.K.Keeper.tables c.answer.new.keeper) (g.K.Keeper.faults c.answer.new.keeper) (g.K.Keeper.course c.answer.new.keeper))
    c.answer.result (seen_asking c.in-Ok.asking) c.in-Ok.ensures.asking c.answer.ensures.desk c.answer.ensures.fault

pub returns-in-Err-OutOfMemory-clause-answer : goal.returns-in-Err-OutOfMemory-clause-answer
returns-in-Err-OutOfMemory-clause-answer g c =
    unread (g.L.Link.left c.args.link.now) (kept (g.K.Keeper.tables c.args.keeper.now) (g.K.Keeper.faults c.args.keeper.now) (g.K.Keeper.course c.args.keeper.now)) c.unwell.result c.unwell.ensures
