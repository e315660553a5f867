use Rattle.std.proofs.Common.{[], ◌∷◌, subst, sym, ap, ◌∙◌}
use Rattle.define_desk.specs.Desk.{withdrawal}
use Rattle.office_desk.specs.Endings.{EndsAs}
use Rattle.office_desk.specs.Refusals.{refusal_reply}
use Rattle.office_desk.specs.Sent.{Sent, sent_of}
use Rattle.office_desk.proofs.Ends.{done_ends, stopped_ends}
use Rattle.office_desk.proofs.withdrawing.stored.Goals as goal

pub returns-in-Ok-clause-ends : goal.returns-in-Ok-clause-ends
returns-in-Ok-clause-ends g c =
    done_ends (g.K.Keeper.tables c.args.keeper.now) c.args.tables.now c.args.key.now (g.K.Keeper.tables c.withdrawn.new.keeper) c.requires.loaded.same _ c.args.told c.requires.told c.in-Ok.ensures.step

pub returns-in-Err-clause-ends : goal.returns-in-Err-clause-ends
returns-in-Err-clause-ends g c =
    let before = g.K.Keeper.tables c.args.keeper.now in
    let after = g.K.Keeper.tables c.withdrawn.new.keeper in
    let tables = c.args.tables.now in
    let key = c.args.key.now in
    let is = c.refused.ensures ∙ ap (λ r. sent_of (refusal_reply r)) c.refusal_of.ensures in
    subst (λ (s : Sent). EndsAs before (withdrawal tables (key ∷ [])) after s) (sym is)
    (stopped_ends before tables key after c.requires.loaded.same c.in-Err.stop c.args.told c.requires.told c.in-Err.ensures.step)
