use Rattle.std.proofs.Common.{subst}
use Rattle.define_offices.specs.Commands.{Solve}
use Rattle.define_runs.specs.Run.{Limits}
use Rattle.command_shell.specs.Told.{object}
use Rattle.command_meanings.specs.Steps.{StepMeans}
use Rattle.command_stores.specs.StoreOutcomes.{SettlesLoaded}
use Rattle.command_stores.specs.StoreTold.{keeper_told}
use Rattle.command_stores.proofs.RoundProofs.{as_solve}
use Rattle.command_stores.proofs.proving.answer_as_solve.Goals as goal

pub returns-clause-settles : goal.returns-clause-settles
returns-clause-settles g c =
    let kept = keeper_told (object (g.K.Keeper.tables c.args.keeper.now) (g.K.Keeper.tables c.settle_over.new.keeper) (g.K.Keeper.faults c.args.keeper.now) (g.K.Keeper.faults c.settle_over.new.keeper)) (g.K.Keeper.course c.args.keeper.now) (g.K.Keeper.course c.settle_over.new.keeper) in
    as_solve c.args.proving.round c.args.tables.now kept c.settle_over.result
    (subst (λ (limits : Limits). SettlesLoaded (StepMeans (Solve c.args.proving.round limits) c.args.tables.now) kept c.settle_over.result) c.lottery_limits.ensures c.settle_over.ensures.settles)
