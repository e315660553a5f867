use Rattle.std.proofs.Common.{arith}
use Rattle.pricing_pool.proofs.Answered.{both_are}
use Rattle.pricing_pool.proofs.workers.+fn-work_side_by_side-join+arg2+fn-work_side_by_side-join+arg3+work_side_by_side.Goals as goal

pub returns : goal.returns
returns g t c =
    both_are (g.P.Pieces.answers c.args.pieces.now) c.args.workers (g.P.Pieces.places c.args.pieces.now) c.args.from _ _ c.args.count c.join-left.result.0 c.join-left.result.1 c.together.result (omega arith)
    c.together.ensures c.join-left.ensures.first c.join-left.ensures.second
