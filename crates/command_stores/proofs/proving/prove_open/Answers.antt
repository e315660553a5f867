use Rattle.command_shell.specs.Told.{object}
use Rattle.command_stores.specs.StoreTold.{keeper_told}
use Rattle.command_stores.proofs.RoundProofs.{keeps_proof}
use Rattle.command_stores.proofs.proving.prove_open.Goals as goal

pub returns-in-Ok-Valid-clause-settles : goal.returns-in-Ok-Valid-clause-settles
returns-in-Ok-Valid-clause-settles g c =
    keeps_proof c.args.proving.round c.args.tables.now c.args.pool.now c.in-Ok-Valid.proof
    (keeper_told (object (g.K.Keeper.tables c.args.keeper.now) (g.K.Keeper.tables c.settle_over.new.keeper) (g.K.Keeper.faults c.args.keeper.now) (g.K.Keeper.faults c.settle_over.new.keeper)) (g.K.Keeper.course c.args.keeper.now) (g.K.Keeper.course c.settle_over.new.keeper))
    c.settle_over.result c.requires.open_now (rw c.in-Ok-Valid.field-0-is at c.in-Ok-Valid.ensures.makes) c.settle_over.ensures.settles
