use Rattle.office_requests.proofs.Wants.{wanted_from}
use Rattle.office_requests.proofs.heads.wanted_by.Goals as goal

pub returns-in-Some-clause-asks : goal.returns-in-Some-clause-asks
returns-in-Some-clause-asks c = wanted_from c.wanted_of.result c.args.head.now _ _ c.in-Some.ensures.head c.wanted_of.ensures.asks
