use Rattle.std.proofs.Common.{Err, refl, sym, subst}
use Rattle.std.specs.Prelude.{option_map}
use Rattle.define_offices.specs.Steps.{Comes}
use Rattle.office_steps.specs.Replies.{seen_reply}
use Rattle.office_tables.specs.Changes.{seen_change}
use Rattle.office_core.specs.Commands.{seen_command}
use Rattle.office_core.specs.Acting.{ActsOver, FailsInOrderOver, StopsOnlyIf}
use Rattle.office_core.specs.Deciding.{IsSolve}
use Rattle.office_core.proofs.Actions.{acts_done, acts_stopped, change_keeps, failed_so, no_store, stopped_only_if}
use Rattle.office_core.proofs.acting.acted_over.Goals as goal

pub store-requires : goal.store-requires
store-requires g c =
    let command = seen_command c.args.command.now in
    let comes = subst (Comes c.args.tables.now command) c.in-Ok.ensures.decides.says c.in-Ok.ensures.decides.comes in
    change_keeps (g.K.Keeper.tables c.args.keeper.now) c.args.tables.now command (option_map seen_change c.in-Ok.decided.0) (seen_reply c.in-Ok.decided.1) c.facts-2.ensures c.facts.ensures c.requires.loaded comes

pub returns-in_ok-store-in-Ok-clause-step : goal.returns-in_ok-store-in-Ok-clause-step
returns-in_ok-store-in-Ok-clause-step g c =
    let command = seen_command c.args.command.now in
    let comes = subst (Comes c.args.tables.now command) c.in-Ok.ensures.decides.says c.in-Ok.ensures.decides.comes in
    acts_done (g.K.Keeper.tables c.args.keeper.now) c.args.tables.now command (g.K.Keeper.tables c.store.new.keeper) (option_map seen_change c.in-Ok.decided.0) c.in-Ok.decided.1 comes
    c.in_ok-store-in-Ok.ensures.ok

pub returns-in-Err-clause-step : goal.returns-in-Err-clause-step
returns-in-Err-clause-step g c =
    let told = g.K.Keeper.tables c.args.keeper.now in
    let command = seen_command c.args.command.now in
    subst (λ s. ActsOver c.args.tables.now told command (Err s) told) (sym c.stopped.ensures)
    (acts_stopped told c.args.tables.now command told c.in-Err.stop c.in-Err.ensures.decides refl)

pub returns-in_err-store-in-Ok-clause-order : goal.returns-in_err-store-in-Ok-clause-order
returns-in_err-store-in-Ok-clause-order g c =
    let command = seen_command c.args.command.now in
    let comes = subst (Comes c.args.tables.now command) c.in-Ok.ensures.decides.says c.in-Ok.ensures.decides.comes in
    failed_so c.args.tables.now command (option_map seen_change c.in-Ok.decided.0) (seen_reply c.in-Ok.decided.1) c.in_err-store-in-Ok.field-0.0 c.from_residual.result (g.K.Keeper.course c.args.keeper.now)
    (g.K.Keeper.course c.store.new.keeper) c.from_residual.ensures.1 comes c.in_err-store-in-Ok.ensures.order

pub returns-in-Err-clause-order : goal.returns-in-Err-clause-order
returns-in-Err-clause-order g c =
    let command = seen_command c.args.command.now in
    let course = g.K.Keeper.course c.args.keeper.now in
    subst (λ s. FailsInOrderOver c.args.tables.now command (Err s) course course) (sym c.stopped.ensures) (no_store c.args.tables.now command c.in-Err.stop course)

pub returns-in-Err-clause-runs : goal.returns-in-Err-clause-runs
returns-in-Err-clause-runs g c =
    let may = IsSolve (seen_command c.args.command.now) in
    subst (λ s. StopsOnlyIf may (Err s)) (sym c.stopped.ensures) (stopped_only_if may c.in-Err.stop c.in-Err.ensures.runs)
