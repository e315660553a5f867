use Rattle.office_core.specs.Commands.{seen_command}
use Rattle.office_import.specs.Answers.{fault_of}
use Rattle.command_stores.proofs.Importing.{does_import, faulty_file}
use Rattle.command_stores.proofs.imports.settle_import.Goals as goal

pub returns-in-Ok-clause-settles : goal.returns-in-Ok-clause-settles
returns-in-Ok-clause-settles g c =
    does_import c.args.import c.args.bytes.now c.in_ok-tables.tables (g.K.Keeper.tables c.args.keeper.now) (g.K.Keeper.tables c.load.new.keeper) (g.K.Keeper.faults c.args.keeper.now) (g.K.Keeper.faults c.load.new.keeper)
    (g.K.Keeper.course c.args.keeper.now) (g.K.Keeper.course c.load.new.keeper) c.in_ok-tables.ensures.loaded c.in_ok-tables.ensures.same c.in_ok-tables.ensures.cause c.in_ok-tables.ensures.course
    (seen_command c.in-Ok.command) (g.K.Keeper.tables c.settle_over.new.keeper) (g.K.Keeper.faults c.settle_over.new.keeper) (g.K.Keeper.course c.settle_over.new.keeper)
    c.settle_over.result c.in-Ok.ensures.read c.settle_over.ensures.settles

pub returns-in-Err-Fault-clause-settles : goal.returns-in-Err-Fault-clause-settles
returns-in-Err-Fault-clause-settles g c =
    faulty_file c.args.import c.args.bytes.now c.in_ok-tables.tables (g.K.Keeper.tables c.args.keeper.now) (g.K.Keeper.tables c.load.new.keeper) (g.K.Keeper.faults c.args.keeper.now) (g.K.Keeper.faults c.load.new.keeper)
    (g.K.Keeper.course c.args.keeper.now) (g.K.Keeper.course c.load.new.keeper) c.in_ok-tables.ensures.loaded c.in_ok-tables.ensures.same c.in_ok-tables.ensures.cause c.in_ok-tables.ensures.course (fault_of c.in-Err-Fault.fault) c.fault_answer.result
    c.answer_or_want.result (rw c.in-Err-Fault.field-0-is at c.in-Err-Fault.ensures.read) c.fault_answer.ensures c.answer_or_want.ensures
