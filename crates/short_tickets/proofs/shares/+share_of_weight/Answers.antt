use Rattle.std.proofs.Common.{arith}
use Rattle.short_tickets.proofs.ShareLemmas.{doubled, doubled_more, whole_within}
use Rattle.short_tickets.proofs.shares.+share_of_weight.Goals as goal

pub returns-then-tickets-eq0-2-clause-share : goal.returns-then-tickets-eq0-2-clause-share
returns-then-tickets-eq0-2-clause-share t c =
    doubled c.args.total c.args.tickets c.args.weight c.share_of_weight-half.result c.carried-double.result (omega arith) c.share_of_weight-half.ensures.share c.carried-double.ensures

pub returns-then-tickets-eq0-2-clause-few : goal.returns-then-tickets-eq0-2-clause-few
returns-then-tickets-eq0-2-clause-few t c =
    whole_within c.args.total c.args.tickets c.args.weight c.carried-double.result c.requires.some c.requires.weight (returns-then-tickets-eq0-2-clause-share t c)

pub returns-else-tickets-eq0-2-clause-share : goal.returns-else-tickets-eq0-2-clause-share
returns-else-tickets-eq0-2-clause-share t c =
    doubled_more c.args.total c.args.tickets c.args.weight c.share_of_weight-half.result c.carried-double.result c.carried.result (omega arith)
    c.share_of_weight-half.ensures.share c.carried-double.ensures c.carried.ensures

pub returns-else-tickets-eq0-2-clause-few : goal.returns-else-tickets-eq0-2-clause-few
returns-else-tickets-eq0-2-clause-few t c =
    whole_within c.args.total c.args.tickets c.args.weight c.carried.result c.requires.some c.requires.weight (returns-else-tickets-eq0-2-clause-share t c)
