use Rattle.command_meanings.specs.ProvedRounds.{ProvesRound}
use Rattle.command_stores.proofs.Answering.{settles_over}
use Rattle.command_stores.proofs.proving.settle_proof.Goals as goal

pub returns : goal.returns
returns g c =
    settles_over c.args.path.now (ProvesRound c.args.proving.round) (g.K.Keeper.tables c.args.keeper.now) (g.K.Keeper.tables c.load_at.new.keeper) (g.K.Keeper.tables c.prove_over.new.keeper)
    (g.K.Keeper.faults c.args.keeper.now) (g.K.Keeper.faults c.load_at.new.keeper) (g.K.Keeper.faults c.prove_over.new.keeper)
    (g.K.Keeper.course c.args.keeper.now) (g.K.Keeper.course c.load_at.new.keeper) (g.K.Keeper.course c.prove_over.new.keeper)
    c.in_ok-tables.ensures.same c.in_ok-tables.ensures.cause c.in_ok-tables.tables c.prove_over.result c.in_ok-tables.ensures.course c.prove_over.ensures.place
    c.in_ok-tables.ensures.loaded c.prove_over.ensures.settles
