use Rattle.std.proofs.Common.{◌≡◌, ◌+◌, ◌*◌, length, sym, ◌∙◌, ap, arith}
use Rattle.define_proofs.specs.ProofReading.{multipliers_of}
use Rattle.proof_text.proofs.Multipliers.{behind, fields_behind, one_more, odd_left}
use Rattle.proof_text.proofs.lines.multipliers_of.Goals as goal

pub loop-i-preserved : goal.loop-i-preserved
loop-i-preserved c =
    let fields = c.args.fields.now in
    ap (λ ms. behind ms (multipliers_of (fields_behind fields (2 * (c.loop-i.i + 1))))) c.in_ok-push.ensures.items
    ∙ (one_more fields c.loop-i.i _ c.loop-i.multipliers.items c.in-Some.multiplier (omega (arith, c.loop-i-test.true)) (sym c.multiplier_of.ensures ∙ c.in-Some.is)
    ∙ c.loop-i.invariant)

pub returns-else-fields-eq0 : goal.returns-else-fields-eq0
returns-else-fields-eq0 c =
    let odd : length c.args.fields.now ≡ 2 * c.loop-i.i + 1 = omega (arith, c.loop-i-test.false, c.loop-i.auto.i-end, c.if-fields-eq0.false) in
    sym (odd_left c.args.fields.now c.loop-i.i c.loop-i.multipliers.items odd) ∙ c.loop-i.invariant
