use Rattle.std.proofs.Common.{◌≡◌, ◌≤◌, max, sym, subst, arith}
use Rattle.std.proofs.lemmas.Nat.Gcd.{IsGcd-from_zero, IsGcd-from_mod}
use Rattle.frac128.specs.Divisors.{gcd_of}
use Rattle.frac128.proofs.DivisorLaws.{gcd_of_is, gcd_of-le}
use Rattle.frac128.proofs.common_divisor.Goals as goal

pub loop-smaller-preserved : goal.loop-smaller-preserved
loop-smaller-preserved c g h = c.loop-smaller.invariant g (IsGcd-from_mod _ _ g h)

-- If the smaller number is 0, the loop ends, and the larger number is the greatest common divisor.
pub returns : goal.returns
returns c =
    let value : c.loop-smaller.larger ≡ gcd_of c.args.x c.args.y =
    sym (gcd_of_is c.args.x c.args.y _ (c.loop-smaller.invariant _ (IsGcd-from_zero _ _ (omega arith)))) in
    record { value = value; small = subst (λ n. n ≤ max c.args.x c.args.y) (sym value) (gcd_of-le c.args.x c.args.y) }
