use Rattle.std.proofs.Common.{◌≡◌}
use Rattle.define_checks.specs.Reasons.{Refusal, Refused, Valid, Verdict}
use Rattle.define_checks.proofs.ReasonsStand.{valid_where_certified}
use Rattle.define_checks.proofs.refused_is_not_certified.Goals as goal

never_both : (verdict : Verdict) (refusal : Refusal) → verdict ≡ Refused refusal → verdict ≡ Valid → ⊥
never_both verdict refusal e f = cc

pub returns : goal.returns
returns c pool answer refusal refused certifies = never_both _ refusal refused (valid_where_certified pool answer certifies)
