use Rattle.office_core.specs.Commands.{seen_command}
use Rattle.command_stores.proofs.Answering.{faulty, no_panel, refused, replied, stopped, unproved}
use Rattle.command_stores.proofs.steps.settle_over.Goals as goal

pub returns-in-Ok-Lines-clause-settles : goal.returns-in-Ok-Lines-clause-settles
returns-in-Ok-Lines-clause-settles g c =
    rw c.in-Ok-Lines.field-0-is (
    replied (seen_command c.args.command.now) c.args.tables.now (g.K.Keeper.tables c.args.keeper.now) (g.K.Keeper.tables c.act_over.new.keeper)
    (g.K.Keeper.faults c.args.keeper.now) (g.K.Keeper.faults c.act_over.new.keeper) (g.K.Keeper.course c.args.keeper.now) (g.K.Keeper.course c.act_over.new.keeper) c.facts.ensures c.in-Ok-Lines.ensures.fault
    c.in-Ok-Lines.text (rw c.in-Ok-Lines.field-0-is at c.in-Ok-Lines.ensures.step))

pub returns-in-Ok-NoPanel-clause-settles : goal.returns-in-Ok-NoPanel-clause-settles
returns-in-Ok-NoPanel-clause-settles g c =
    no_panel (seen_command c.args.command.now) c.args.tables.now (g.K.Keeper.tables c.args.keeper.now) (g.K.Keeper.tables c.act_over.new.keeper)
    (g.K.Keeper.faults c.args.keeper.now) (g.K.Keeper.faults c.act_over.new.keeper) (g.K.Keeper.course c.args.keeper.now) (g.K.Keeper.course c.act_over.new.keeper) c.facts.ensures c.in-Ok-NoPanel.ensures.fault
    c.in-Ok.none c.in-Ok.ensures (rw c.in-Ok-NoPanel.field-0-is at c.in-Ok-NoPanel.ensures.step)

pub returns-in-Err-Refused-clause-settles : goal.returns-in-Err-Refused-clause-settles
returns-in-Err-Refused-clause-settles g c =
    refused (seen_command c.args.command.now) c.args.tables.now (g.K.Keeper.tables c.args.keeper.now) (g.K.Keeper.tables c.act_over.new.keeper)
    (g.K.Keeper.faults c.args.keeper.now) (g.K.Keeper.faults c.act_over.new.keeper) (g.K.Keeper.course c.args.keeper.now) (g.K.Keeper.course c.act_over.new.keeper) c.facts.ensures (rw c.in-Err-Refused.field-0-is at c.in-Err-Refused.ensures.fault)
    c.in-Err-Refused.refusal c.refusal_answer.result c.answer_or_want.result (rw c.in-Err-Refused.field-0-is at c.in-Err-Refused.ensures.step) c.refusal_answer.ensures c.answer_or_want.ensures

pub returns-in-Err-Solve-clause-settles : goal.returns-in-Err-Solve-clause-settles
returns-in-Err-Solve-clause-settles g c =
    stopped (seen_command c.args.command.now) c.args.tables.now (g.K.Keeper.tables c.args.keeper.now) (g.K.Keeper.tables c.act_over.new.keeper)
    (g.K.Keeper.faults c.args.keeper.now) (g.K.Keeper.faults c.act_over.new.keeper) (g.K.Keeper.course c.args.keeper.now) (g.K.Keeper.course c.act_over.new.keeper) c.facts.ensures (rw c.in-Err-Solve.field-0-is at c.in-Err-Solve.ensures.fault)
    c.in-Err-Solve.stop c.run_answer.result c.answer_or_want-in-Err-Solve.result (rw c.in-Err-Solve.field-0-is at c.in-Err-Solve.ensures.step) c.run_answer.ensures c.answer_or_want-in-Err-Solve.ensures

pub returns-in-Err-Unproved-clause-settles : goal.returns-in-Err-Unproved-clause-settles
returns-in-Err-Unproved-clause-settles g c =
    unproved (seen_command c.args.command.now) c.args.tables.now (g.K.Keeper.tables c.args.keeper.now) (g.K.Keeper.tables c.act_over.new.keeper)
    (g.K.Keeper.faults c.args.keeper.now) (g.K.Keeper.faults c.act_over.new.keeper) (g.K.Keeper.course c.args.keeper.now) (g.K.Keeper.course c.act_over.new.keeper) c.facts.ensures (rw c.in-Err-Unproved.field-0-is at c.in-Err-Unproved.ensures.fault)
    c.in-Err-Unproved.verdict c.verdict_answer.result c.answer_or_want-in-Err-Unproved.result (rw c.in-Err-Unproved.field-0-is at c.in-Err-Unproved.ensures.step) c.verdict_answer.ensures c.answer_or_want-in-Err-Unproved.ensures

pub returns-in-Err-KeeperFault-clause-settles : goal.returns-in-Err-KeeperFault-clause-settles
returns-in-Err-KeeperFault-clause-settles g c =
    let (up, rose) = rw c.in-Err-KeeperFault.field-0-is at c.in-Err-KeeperFault.ensures.fault in
    faulty (seen_command c.args.command.now) c.args.tables.now (g.K.Keeper.tables c.args.keeper.now) (g.K.Keeper.tables c.act_over.new.keeper)
    (g.K.Keeper.faults c.args.keeper.now) (g.K.Keeper.faults c.act_over.new.keeper) (g.K.Keeper.course c.args.keeper.now) (g.K.Keeper.course c.act_over.new.keeper) c.facts.ensures rose
    (rw c.in-Err-KeeperFault.field-0-is at c.in-Err-KeeperFault.ensures.step) (rw c.in-Err-KeeperFault.field-0-is at c.in-Err-KeeperFault.ensures.order)

pub run_answer-requires : goal.run_answer-requires
run_answer-requires g c =
    rw c.in-Err-Solve.field-0-is at c.in-Err-Solve.ensures.runs

pub verdict_answer-requires : goal.verdict_answer-requires
verdict_answer-requires g c =
    let (refusal, is, has) = rw c.in-Err-Unproved.field-0-is at c.in-Err-Unproved.ensures.step in
    (refusal, is)
