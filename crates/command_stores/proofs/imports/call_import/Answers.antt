use Rattle.std.proofs.Common.{refl, subst}
use Rattle.command_shell.specs.Told.{object}
use Rattle.command_meanings.specs.Imports.{ImportMeans}
use Rattle.command_stores.specs.StoreOutcomes.{SettlesAttached}
use Rattle.command_stores.specs.StoreTold.{keeper_told}
use Rattle.command_stores.proofs.Importing.{file_read, no_file, not_attached}
use Rattle.command_stores.proofs.imports.call_import.Goals as goal

pub returns-in-Err : goal.returns-in-Err
returns-in-Err g c =
    not_attached c.args.path.now (ImportMeans c.args.import) _ (g.K.Keeper.tables c.args.keeper.now) (g.K.Keeper.tables c.attach.new.keeper) (g.K.Keeper.faults c.args.keeper.now) (g.K.Keeper.faults c.attach.new.keeper)
    (g.K.Keeper.course c.args.keeper.now) (g.K.Keeper.course c.attach.new.keeper) c.in-Err.stop (record { same = refl; no_fault = refl }) c.in-Err.ensures.same c.in-Err.ensures.course c.in-Err.ensures.cause
    (c.tell_settled.ensures _)

pub returns-in-Ok : goal.returns-in-Ok
returns-in-Ok g c =
    let settles = subst (λ bytes. SettlesAttached (ImportMeans c.args.import bytes)
    (keeper_told (object (g.K.Keeper.tables c.attach.new.keeper) (g.K.Keeper.tables c.settle_import-settled.new.keeper) (g.K.Keeper.faults c.attach.new.keeper) (g.K.Keeper.faults c.settle_import-settled.new.keeper))
    (g.K.Keeper.course c.attach.new.keeper) (g.K.Keeper.course c.settle_import-settled.new.keeper)) c.settle_import-settled.result) c.deref.ensures.value c.settle_import-settled.ensures.settles in
    file_read c.args.path.now (ImportMeans c.args.import) _ (g.K.Keeper.tables c.args.keeper.now) (g.K.Keeper.tables c.settle_import-settled.new.keeper) (g.K.Keeper.faults c.args.keeper.now)
    (g.K.Keeper.faults c.settle_import-settled.new.keeper) (g.K.Keeper.course c.args.keeper.now) (g.K.Keeper.course c.settle_import-settled.new.keeper)
    c.in-Ok.bytes.items (g.K.Keeper.tables c.attach.new.keeper) (g.K.Keeper.faults c.attach.new.keeper) (g.K.Keeper.course c.attach.new.keeper) c.settle_import-settled.result c.in-Ok.ensures.input
    c.in_default.ensures.same c.in_default.ensures.cause c.in_default.ensures.course c.settle_import-settled.ensures.place settles (c.tell_settled-in-Ok.ensures _)

pub returns-in-Err-read_unheld : goal.returns-in-Err-read_unheld
returns-in-Err-read_unheld g c =
    no_file c.args.path.now (ImportMeans c.args.import) _ (g.K.Keeper.tables c.args.keeper.now) (g.K.Keeper.tables c.attach.new.keeper) (g.K.Keeper.faults c.args.keeper.now) (g.K.Keeper.faults c.attach.new.keeper)
    (g.K.Keeper.course c.args.keeper.now) (g.K.Keeper.course c.attach.new.keeper) c.in-Err-read_unheld.stop c.in_default.ensures.same c.in_default.ensures.course c.in_default.ensures.cause c.in-Err-read_unheld.ensures.none
    (c.refuse_input.ensures _
    (object (g.O.Sink.written c.args.out.now) (g.O.Sink.written c.args.out.now) (g.O.Sink.faults c.args.out.now) (g.O.Sink.faults c.args.out.now)) (record { same = refl; no_fault = refl }))
