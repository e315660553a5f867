use Rattle.std.proofs.Common.{Option, None, subst}
use Rattle.define_draws.specs.Seal.{seal_of}
use Rattle.define_offices.specs.Deciding.{with_hash}
use Rattle.office_desk.specs.Sent.{Sent}
use Rattle.office_desk.specs.Withdrawals.{TellsWithdrawn}
use Rattle.office_desk.proofs.Ends.{unknown_ends}
use Rattle.office_desk.proofs.withdrawing.withdrawal_with.Goals as goal

pub returns-in-Ok-None-clause-ends : goal.returns-in-Ok-None-clause-ends
returns-in-Ok-None-clause-ends g c =
    let tables = c.args.tables.now in
    let key = c.args.key.now in
    let tells : TellsWithdrawn (with_hash tables.register (seal_of key)) None =
    subst (λ (reply : Option Sent). TellsWithdrawn (with_hash tables.register (seal_of key)) reply) c.in-Ok-None.field-0-is c.in-Ok-None.ensures in
    unknown_ends (g.K.Keeper.tables c.args.keeper.now) tables key c.refused.result c.requires.same tells c.refused.ensures
