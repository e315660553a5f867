use Rattle.std.proofs.Common.{◌∙◌, sym}
use Rattle.std.proofs.lemmas.Result.{IfOk-weaker}
use Rattle.office_tables.proofs.ChangedPlaces.{withdrawn-beyond, withdrawn-whole}
use Rattle.office_tables.proofs.changes.withdrawn.Goals as goal

pub returns-then-register-place : goal.returns-then-register-place
returns-then-register-place c =
    IfOk-weaker c.copied_entries.result _ _ (λ after e. e ∙ sym (withdrawn-beyond c.args.register.now c.args.place c.if-register-place.true)) c.copied_entries.ensures

pub returns : goal.returns
returns c =
    withdrawn-whole c.args.register.now c.push_entries.new.all.items c.push.new.self.items c.in_ok-after.after.items c.args.place c.index-register-place.result c.in_ok-copy_withdrawn.field-0
    c.in_ok-push_entries.ensures c.in_ok-push.ensures.items c.in_ok-after.ensures c.in_ok-copy_withdrawn.ensures c.index-register-place.is c.if-register-place.false
