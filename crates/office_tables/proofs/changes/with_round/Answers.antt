use Rattle.std.proofs.Common.{◌-◌, ◌∙◌, sym, arith}
use Rattle.std.proofs.lemmas.Result.{IfOk-weaker}
use Rattle.office_tables.proofs.ChangedPlaces.{changed-none, changed-whole}
use Rattle.office_tables.specs.Changes.{round_after, seen_change}
use Rattle.office_tables.proofs.changes.with_round.Goals as goal

pub returns-then-number-eq0 : goal.returns-then-number-eq0
returns-then-number-eq0 c =
    IfOk-weaker c.copied_rounds.result _ _ (λ after e. e ∙ sym (changed-none (round_after (seen_change c.args.change.now)) c.args.rounds.now c.args.number c.then-number-eq0.either)) c.copied_rounds.ensures

pub returns : goal.returns
returns c =
    let some = c.if-number-eq0.false in
    changed-whole (round_after (seen_change c.args.change.now)) c.args.rounds.now c.push_rounds.new.all.items c.push.new.self.items c.in_ok-after.after.items c.args.number (c.args.number - 1)
    c.index-rounds-place.result c.in_ok-changed_round.field-0 (omega arith)
    c.in_ok-push_rounds.ensures c.in_ok-push.ensures.items c.in_ok-after.ensures c.in_ok-changed_round.ensures c.index-rounds-place.is c.if-rounds-number.false
