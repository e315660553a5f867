use Rattle.std.proofs.Common.{Option, subst}
use Rattle.define_offices.specs.Tables.{Tables}
use Rattle.office_core.specs.Acting.{ActsOver, GoesOn}
use Rattle.office_core.specs.Commands.{seen_command}
use Rattle.office_core.proofs.Actions.{acts_on, loaded_first, not_loaded_so}
use Rattle.office_core.proofs.acting.act.Goals as goal

pub returns-clause-step : goal.returns-clause-step
returns-clause-step g c =
    let told = g.K.Keeper.tables c.args.keeper.now in
    let after = g.K.Keeper.tables c.act_over.new.keeper in
    let command = seen_command c.args.command.now in
    acts_on told c.in_ok-tables.tables command after c.act_over.result (record { is = c.facts.ensures; same = c.in_ok-tables.ensures.loaded })
    (subst (λ (kept : Option Tables). ActsOver c.in_ok-tables.tables kept command c.act_over.result after) c.in_ok-tables.ensures.same c.act_over.ensures.step)

pub returns-clause-fold : goal.returns-clause-fold
returns-clause-fold g c =
    subst (λ (kept : Option Tables). GoesOn kept (seen_command c.args.command.now) c.act_over.result (g.K.Keeper.tables c.act_over.new.keeper)) c.in_ok-tables.ensures.same c.act_over.ensures.fold

pub returns-clause-order : goal.returns-clause-order
returns-clause-order g c =
    loaded_first (g.K.Keeper.tables c.args.keeper.now) c.in_ok-tables.tables (seen_command c.args.command.now) c.act_over.result (g.K.Keeper.course c.args.keeper.now) (g.K.Keeper.course c.load.new.self)
    (g.K.Keeper.course c.act_over.new.keeper) (record { is = c.facts.ensures; same = c.in_ok-tables.ensures.loaded }) c.in_ok-tables.ensures.course c.act_over.ensures.order

pub returns-in_err-tables-clause-order : goal.returns-in_err-tables-clause-order
returns-in_err-tables-clause-order g c =
    not_loaded_so (g.K.Keeper.tables c.args.keeper.now) (seen_command c.args.command.now) c.in_err-tables.field-0.0 c.from_residual.result (g.K.Keeper.course c.args.keeper.now) (g.K.Keeper.course c.load.new.self)
    c.from_residual.ensures.1 c.in_err-tables.ensures.course
