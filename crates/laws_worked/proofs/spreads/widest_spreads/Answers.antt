use Rattle.std.proofs.Common.{◌≡◌, ℕ, ◌*◌, ◌/◌, ◌%◌, ◌^◌, ◌+◌, refl, arith, ap}
use Rattle.std.specs.Int.{IsGcd}
use Rattle.std.proofs.lemmas.Nat.Gcd.{IsGcd-from_mod, IsGcd-from_zero, IsGcd-swap}
use Rattle.frac128.specs.Divisors.{lcm_of, gcd_of, common_divisor_up_to}
use Rattle.frac128.proofs.DivisorLaws.{gcd_of_is, gcd_of-scale}
use Rattle.define_runs.specs.Spreading.{spread}
use Rattle.laws_worked.proofs.spreads.widest_spreads.Goals as goal

-- the least common multiple of 1 and n is n
lcm_of-one : (n : ℕ) → lcm_of 1 n ≡ n
unfolding lcm_of
lcm_of-one n =
    let rest : n % 1 ≡ 0 = omega arith in
    let e : gcd_of 1 n ≡ 1 = gcd_of_is 1 n 1 (IsGcd-swap n 1 1 (IsGcd-from_mod n 1 1 (IsGcd-from_zero 1 (n % 1) rest))) in
    rw e (omega arith)

-- the least common multiple of 10^38 and itself is 10^38
lcm_of-greatest : lcm_of (10 ^ 38) (10 ^ 38) ≡ 10 ^ 38
unfolding lcm_of
lcm_of-greatest = rw (gcd_of_is (10 ^ 38) (10 ^ 38) (10 ^ 38) (IsGcd-from_mod (10 ^ 38) (10 ^ 38) (10 ^ 38) (IsGcd-from_zero (10 ^ 38) ((10 ^ 38) % (10 ^ 38)) refl))) refl

pub returns-clause-greatest : goal.returns-clause-greatest
unfolding spread
returns-clause-greatest c = rw (lcm_of-one (10 ^ 38), lcm_of-greatest) refl

pub returns-clause-passed : goal.returns-clause-passed
unfolding spread
returns-clause-passed c = rw (lcm_of-one (10 ^ 38 + 1)) refl

pub returns-clause-dial : goal.returns-clause-dial
unfolding spread
returns-clause-dial c = rw (lcm_of-one 2, lcm_of-one (10 ^ 38 * 2)) refl
