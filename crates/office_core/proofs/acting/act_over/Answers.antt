use Rattle.office_core.specs.Commands.{seen_command}
use Rattle.office_core.proofs.Actions.{acts_on, goes_on}
use Rattle.office_core.proofs.acting.act_over.Goals as goal

pub returns-clause-fold : goal.returns-clause-fold
returns-clause-fold g c =
    let told = g.K.Keeper.tables c.args.keeper.now in
    let after = g.K.Keeper.tables c.acted_over.new.keeper in
    let command = seen_command c.args.command.now in
    goes_on told command c.acted_over.result after
    (acts_on told c.args.tables.now command after c.acted_over.result (record { is = c.facts.ensures; same = c.requires.loaded }) c.acted_over.ensures.step)
