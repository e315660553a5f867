use Rattle.office_requests.specs.Needs.{IsUndecided}
use Rattle.office_requests.proofs.Chains.{reads_kept}
use Rattle.office_http.proofs.Writing.{cut_off, still_read, written}
use Rattle.office_http.specs.Visits.{kept, link_told}
use Rattle.office_http.proofs.attending.attend.Goals as goal

pub returns-in-Ok-clause-visit : goal.returns-in-Ok-clause-visit
returns-in-Ok-clause-visit g c = record {
  ends = written (link_told (g.L.Link.left c.args.link.now) (g.L.Link.written c.args.link.now) (g.L.Link.faults c.args.link.now))
      (link_told (g.L.Link.left c.put.new.self) (g.L.Link.written c.put.new.self) (g.L.Link.faults c.put.new.self))
      (kept (g.K.Keeper.tables c.args.keeper.now) (g.K.Keeper.faults c.args.keeper.now) (g.K.Keeper.course c.args.keeper.now))
      (kept (g.K.Keeper.tables c.answer_link.new.keeper) (g.K.Keeper.faults c.answer_link.new.keeper) (g.K.Keeper.course c.answer_link.new.keeper))
      c.in_ok-answer.answer c.status.result (g.L.Link.written c.answer_link.new.link) c.bytes.result.now (g.L.Link.faults c.answer_link.new.link)
      c.in_ok-answer.ensures.answer c.status.ensures c.answer_link.ensures.unwritten c.bytes.ensures c.in-Ok.ensures.whole c.in_ok-answer.ensures.none c.in-Ok.ensures.none;
  read = still_read _ _ _ c.answer_link.ensures.read c.put.ensures.same;
}

pub returns-clause-visit : goal.returns-clause-visit
returns-clause-visit g c = record {
  ends = cut_off (link_told (g.L.Link.left c.args.link.now) (g.L.Link.written c.args.link.now) (g.L.Link.faults c.args.link.now))
      (link_told (g.L.Link.left c.put.new.self) (g.L.Link.written c.put.new.self) (g.L.Link.faults c.put.new.self))
      (kept (g.K.Keeper.tables c.args.keeper.now) (g.K.Keeper.faults c.args.keeper.now) (g.K.Keeper.course c.args.keeper.now))
      (kept (g.K.Keeper.tables c.answer_link.new.keeper) (g.K.Keeper.faults c.answer_link.new.keeper) (g.K.Keeper.course c.answer_link.new.keeper))
      c.in_ok-answer.answer (record {}) (g.L.Link.written c.answer_link.new.link) c.bytes.result.now (g.L.Link.faults c.answer_link.new.link)
      c.in_ok-answer.ensures.answer c.answer_link.ensures.unwritten c.bytes.ensures c.in-Err.ensures.part c.in_ok-answer.ensures.none c.in-Err.ensures.cause;
  read = still_read _ _ _ c.answer_link.ensures.read c.put.ensures.same;
}

pub returns-in-Ok-clause-needed : goal.returns-in-Ok-clause-needed
returns-in-Ok-clause-needed g c = reads_kept g.L.Link.left g.L.Link.reads IsUndecided _ _ _ c.answer_link.ensures.needed c.put.ensures.same c.put.ensures.no_read

pub returns-clause-needed : goal.returns-clause-needed
returns-clause-needed g c = reads_kept g.L.Link.left g.L.Link.reads IsUndecided _ _ _ c.answer_link.ensures.needed c.put.ensures.same c.put.ensures.no_read
