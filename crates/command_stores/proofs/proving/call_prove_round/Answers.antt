use Rattle.command_shell.specs.Answers.{status_number}
use Rattle.command_shell.specs.Told.{object, told}
use Rattle.command_meanings.specs.ProvedRounds.{ProvesRound}
use Rattle.command_stores.specs.StoreTold.{keeper_told}
use Rattle.command_stores.proofs.Answering.{ends}
use Rattle.command_stores.proofs.proving.call_prove_round.Goals as goal

pub returns : goal.returns
returns g c source alone = record {
  source = alone;
  ends = ends c.args.path.now (ProvesRound c.args.proving.round)
      (keeper_told (object (g.K.Keeper.tables c.args.keeper.now) (g.K.Keeper.tables c.settle_proof-settled.new.keeper) (g.K.Keeper.faults c.args.keeper.now) (g.K.Keeper.faults c.settle_proof-settled.new.keeper))
      (g.K.Keeper.course c.args.keeper.now) (g.K.Keeper.course c.settle_proof-settled.new.keeper))
      (told (status_number c.tell_settled.result) source
      (object (g.O.Sink.written c.args.out.now) (g.O.Sink.written c.tell_settled.new.out) (g.O.Sink.faults c.args.out.now) (g.O.Sink.faults c.tell_settled.new.out))
      (object (g.E.Sink.written c.args.errs.now) (g.E.Sink.written c.tell_settled.new.errs) (g.E.Sink.faults c.args.errs.now) (g.E.Sink.faults c.tell_settled.new.errs)))
      c.settle_proof-settled.result c.settle_proof-settled.ensures (c.tell_settled.ensures source);
}
