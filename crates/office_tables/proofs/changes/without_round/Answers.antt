use Rattle.std.proofs.Common.{◌≡◌, ◌-◌, ◌∙◌, suc, sym, arith}
use Rattle.std.proofs.lemmas.Result.{IfOk-weaker}
use Rattle.office_tables.proofs.TakenRounds.{taken-kept, taken-last, taken-none}
use Rattle.office_tables.proofs.changes.without_round.Goals as goal

pub returns-then-number-eq0 : goal.returns-then-number-eq0
returns-then-number-eq0 c = IfOk-weaker c.copied_rounds.result _ _ (λ after e. e ∙ sym (taken-none c.args.rounds.now c.args.number c.then-number-eq0.either)) c.copied_rounds.ensures

pub returns-in-None : goal.returns-in-None
returns-in-None c =
    let some = c.if-number-eq0.false in
    let named : c.args.number ≡ suc (c.args.number - 1) = omega arith in
    IfOk-weaker c.copied_rounds-in-None.result _ _
    (λ after e. e ∙ taken-last c.args.rounds.now c.args.number (c.args.number - 1) c.index-rounds-place.result named c.if-rounds-number.false c.index-rounds-place.is (sym c.bundle.ensures ∙ c.in-None.is))
    c.copied_rounds-in-None.ensures

pub returns-in-Some : goal.returns-in-Some
returns-in-Some c =
    let some = c.if-number-eq0.false in
    let named : c.args.number ≡ suc (c.args.number - 1) = omega arith in
    IfOk-weaker c.copied_rounds-in-Some.result _ _
    (λ after e. e ∙ sym (taken-kept c.args.rounds.now c.args.number (c.args.number - 1) c.index-rounds-place.result _ named c.if-rounds-number.false c.index-rounds-place.is (sym c.bundle.ensures ∙ c.in-Some.is)))
    c.copied_rounds-in-Some.ensures
