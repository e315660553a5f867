use Rattle.office_core.specs.Commands.{seen_command}
use Rattle.command_meanings.specs.Steps.{StepMeans}
use Rattle.command_stores.proofs.Answering.{settles_over}
use Rattle.command_stores.proofs.steps.settle.Goals as goal

pub returns : goal.returns
returns g c =
    settles_over c.args.path.now (StepMeans (seen_command c.args.command.now)) (g.K.Keeper.tables c.args.keeper.now) (g.K.Keeper.tables c.load_at.new.keeper) (g.K.Keeper.tables c.settle_over.new.keeper)
    (g.K.Keeper.faults c.args.keeper.now) (g.K.Keeper.faults c.load_at.new.keeper) (g.K.Keeper.faults c.settle_over.new.keeper)
    (g.K.Keeper.course c.args.keeper.now) (g.K.Keeper.course c.load_at.new.keeper) (g.K.Keeper.course c.settle_over.new.keeper)
    c.in_ok-tables.ensures.same c.in_ok-tables.ensures.cause c.in_ok-tables.tables c.settle_over.result c.in_ok-tables.ensures.course c.settle_over.ensures.place
    c.in_ok-tables.ensures.loaded c.settle_over.ensures.settles
