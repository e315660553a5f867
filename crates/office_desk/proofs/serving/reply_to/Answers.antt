use Rattle.std.proofs.Common.{Option, subst}
use Rattle.define_offices.specs.Tables.{Tables}
use Rattle.office_desk.specs.Answers.{IsReplyTo}
use Rattle.office_desk.proofs.Ends.{loaded_faults}
use Rattle.office_desk.proofs.serving.reply_to.Goals as goal

pub returns-in-Ok-clause-desk : goal.returns-in-Ok-clause-desk
returns-in-Ok-clause-desk g c =
    subst (λ (before : Option Tables). IsReplyTo before c.args.request.now (g.K.Keeper.tables c.reply_over.new.keeper) c.reply_over.result) c.in-Ok.ensures.same c.reply_over.ensures.desk

pub returns-in-Ok-clause-fault : goal.returns-in-Ok-clause-fault
returns-in-Ok-clause-fault g c =
    loaded_faults (g.K.Keeper.tables c.args.keeper.now) c.in-Ok.tables c.args.request.now.keys (g.K.Keeper.course c.args.keeper.now) (g.K.Keeper.course c.load.new.self) (g.K.Keeper.course c.reply_over.new.keeper)
    (g.K.Keeper.faults c.args.keeper.now) (g.K.Keeper.faults c.load.new.self) (g.K.Keeper.faults c.reply_over.new.keeper) _ (record { is = c.facts.ensures; same = c.in-Ok.ensures.loaded })
    c.in-Ok.ensures.course c.in-Ok.ensures.cause c.reply_over.ensures.fault
