use Rattle.office_requests.proofs.Numbers.{IsValueAt}
use Rattle.office_requests.proofs.fields.digits_value.Given as goal

abbrev pub invariant-loop-digit : goal.invariant-loop-digit
invariant-loop-digit l = IsValueAt l.text l.digit-index l.value
