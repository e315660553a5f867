use Rattle.std.proofs.Common.{◌≡◌, arith}
use Rattle.exact_table.proofs.ChoiceLaws.{ratio-parts}
use Rattle.exact_table.proofs.bases.scaled.Goals as goal

pub returns-in_err-quotient : goal.returns-in_err-quotient
returns-in_err-quotient c ratio e =
    let parts = ratio-parts c.args.number c.args.factor c.args.divisor ratio c.requires.some e in
    rw c.from_residual.ensures (λ l. c.in_err-quotient.ensures (omega (arith, parts, l)))

pub returns-in_err-ratio : goal.returns-in_err-ratio
returns-in_err-ratio c ratio e =
    let parts = ratio-parts c.args.number c.args.factor c.args.divisor ratio c.requires.some e in
    rw c.from_residual-in_err-ratio.ensures (λ l. c.in_err-ratio.ensures (omega (arith, parts, l, c.in_ok-quotient.ensures.1)))

pub returns-then-ratio-le-GREATEST_BOUND : goal.returns-then-ratio-le-GREATEST_BOUND
returns-then-ratio-le-GREATEST_BOUND c ratio e =
    let parts = ratio-parts c.args.number c.args.factor c.args.divisor ratio c.requires.some e in
    let is : c.in_ok-ratio.ratio ≡ ratio = omega (arith, parts, c.in_ok-quotient.ensures.1, c.in_ok-ratio.ensures.1) in
    (omega (arith, is, c.if-ratio-le-GREATEST_BOUND.true), is)

pub returns-else-ratio-le-GREATEST_BOUND : goal.returns-else-ratio-le-GREATEST_BOUND
returns-else-ratio-le-GREATEST_BOUND c ratio e l =
    let parts = ratio-parts c.args.number c.args.factor c.args.divisor ratio c.requires.some e in
    let is : c.in_ok-ratio.ratio ≡ ratio = omega (arith, parts, c.in_ok-quotient.ensures.1, c.in_ok-ratio.ensures.1) in
    omega (arith, is, l, c.if-ratio-le-GREATEST_BOUND.false)
