use Rattle.command_shell.specs.Answers.{status_number}
use Rattle.command_shell.specs.Told.{object, told}
use Rattle.command_meanings.specs.Steps.{TextMeans}
use Rattle.command_stores.specs.StoreTold.{keeper_told}
use Rattle.command_stores.proofs.Answering.{ends}
use Rattle.command_stores.proofs.texts.call_text.Goals as goal

pub returns : goal.returns
returns g c source alone = record {
  source = alone;
  ends = ends c.args.path.now (TextMeans c.args.text)
      (keeper_told (object (g.K.Keeper.tables c.args.keeper.now) (g.K.Keeper.tables c.settle_text-settled.new.keeper) (g.K.Keeper.faults c.args.keeper.now) (g.K.Keeper.faults c.settle_text-settled.new.keeper))
      (g.K.Keeper.course c.args.keeper.now) (g.K.Keeper.course c.settle_text-settled.new.keeper))
      (told (status_number c.tell_settled.result) source
      (object (g.O.Sink.written c.args.out.now) (g.O.Sink.written c.tell_settled.new.out) (g.O.Sink.faults c.args.out.now) (g.O.Sink.faults c.tell_settled.new.out))
      (object (g.E.Sink.written c.args.errs.now) (g.E.Sink.written c.tell_settled.new.errs) (g.E.Sink.faults c.args.errs.now) (g.E.Sink.faults c.tell_settled.new.errs)))
      c.settle_text-settled.result c.settle_text-settled.ensures (c.tell_settled.ensures source);
}
