use Rattle.command_shell.specs.Answers.{status_number}
use Rattle.command_shell.specs.Told.{object, told}
use Rattle.office_core.specs.Commands.{seen_command}
use Rattle.command_meanings.specs.Steps.{StepMeans}
use Rattle.command_stores.specs.StoreTold.{keeper_told}
use Rattle.command_stores.proofs.Answering.{ends}
use Rattle.command_stores.proofs.steps.call_step.Goals as goal

pub returns : goal.returns
returns g c source alone = record {
  source = alone;
  ends = ends c.args.path.now (StepMeans (seen_command c.args.command.now))
      (keeper_told (object (g.K.Keeper.tables c.args.keeper.now) (g.K.Keeper.tables c.settle-settled.new.keeper) (g.K.Keeper.faults c.args.keeper.now) (g.K.Keeper.faults c.settle-settled.new.keeper))
      (g.K.Keeper.course c.args.keeper.now) (g.K.Keeper.course c.settle-settled.new.keeper))
      (told (status_number c.tell_settled.result) source
      (object (g.O.Sink.written c.args.out.now) (g.O.Sink.written c.tell_settled.new.out) (g.O.Sink.faults c.args.out.now) (g.O.Sink.faults c.tell_settled.new.out))
      (object (g.E.Sink.written c.args.errs.now) (g.E.Sink.written c.tell_settled.new.errs) (g.E.Sink.faults c.args.errs.now) (g.E.Sink.faults c.tell_settled.new.errs)))
      c.settle-settled.result c.settle-settled.ensures (c.tell_settled.ensures source);
}
