use Rattle.std.proofs.Common.{◌≡◌, true}
use Rattle.std.proofs.lemmas.Result.{IfOk-weaker}
use Rattle.define_offices.specs.Pools.{pool_of}
use Rattle.define_offices.specs.Tables.{named_round}
use Rattle.command_stores.specs.OpenRounds.{is_open}
use Rattle.command_stores.proofs.RoundProofs.{opened}
use Rattle.command_stores.proofs.proving.open_pool.Goals as goal

pub returns-then-is_open : goal.returns-then-is_open
returns-then-is_open c =
    let is : is_open (named_round c.args.tables.now.rounds c.args.round) ≡ true = cc (c.is_open.ensures, c.if-is_open.true) in
    IfOk-weaker c.if_any.result _ _ (λ pool any. opened c.args.tables.now c.args.round is pool any) (c.if_any.ensures (pool_of c.args.tables.now c.args.round) c.pool_of.ensures)
