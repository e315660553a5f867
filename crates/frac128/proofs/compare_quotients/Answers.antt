use Rattle.std.proofs.Common.{◌≡◌, ◌⊎◌, inl, inr, ◌%◌, ◌∙◌, arith}
use Rattle.frac128.proofs.ComparisonLaws.{nat_cmp_by_quotients, nat_cmp_by_rests, nat_cmp_at_zero}
use Rattle.frac128.proofs.compare_quotients.Goals as goal
use Rattle.frac128.proofs.compare_quotients.Goals.{then-a_rest-eq0-via-then-a_rest-eq0, then-a_rest-eq0-via-else-a_rest-eq0+then-b_rest-eq0}

pub returns-then-a_quotient-b_quotient : goal.returns-then-a_quotient-b_quotient
returns-then-a_quotient-b_quotient c =
    let before = c.loop-a_quotient in
    c.cmp.ensures ∙ nat_cmp_by_quotients before.an before.ad before.bn before.bd before.invariant.ad_positive before.invariant.bd_positive c.if-a_quotient-b_quotient.true ∙ before.invariant.answer

pub returns-then-a_rest-eq0 : goal.returns-then-a_rest-eq0
returns-then-a_rest-eq0 c =
    let before = c.loop-a_quotient in
    let none : (before.an % before.ad ≡ 0) ⊎ (before.bn % before.bd ≡ 0) =
    elim c.then-a_rest-eq0.branch [ then-a_rest-eq0-via-then-a_rest-eq0 w ↦ inl (omega arith) | then-a_rest-eq0-via-else-a_rest-eq0+then-b_rest-eq0 w ↦ inr (omega arith) ] in
    c.cmp-then-a_rest-eq0.ensures ∙ nat_cmp_at_zero before.ad before.bd _ _ before.invariant.ad_positive before.invariant.bd_positive none ∙ nat_cmp_by_rests before.an before.ad before.bn before.bd (omega arith) ∙ before.invariant.answer

pub loop-a_quotient-preserved : goal.loop-a_quotient-preserved
loop-a_quotient-preserved c =
    let before = c.loop-a_quotient in
    record {
      ad_positive = omega arith;
      bd_positive = omega arith;
      answer = nat_cmp_by_rests before.an before.ad before.bn before.bd (omega arith) ∙ before.invariant.answer;
    }
