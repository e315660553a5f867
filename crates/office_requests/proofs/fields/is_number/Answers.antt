use Rattle.std.proofs.Common.{arith}
use Rattle.std.proofs.lemmas.Bool.Decides.{nat_tests}
use Rattle.office_requests.proofs.Numbers.{number_test}
use Rattle.office_requests.proofs.fields.is_number.Goals as goal
use Rattle.office_requests.proofs.fields.is_number.Goals.{then-not-is_empty, else-not-is_empty}

pub returns-then-text-le18 : goal.returns-then-text-le18
returns-then-text-le18 c =
    elim c.if-not-is_empty.branch [
      | then-not-is_empty w ↦ number_test c.args.text.now c.are_digits.result c.are_digits.ensures (grind (arith, nat_tests)) (grind (arith, nat_tests))
      | else-not-is_empty w ↦ absurd (grind (arith, nat_tests))
    ]
