use Rattle.std.proofs.Common.{◌≡◌, ℕ, suc, ◌*◌, ◌<◌, ◌≤◌, List, [], ◌∷◌, length, map, arith, ap, mul-le-mul_left, rules, false, ℤ, pos, negsuc, FitsSigned}
use Rattle.std.specs.Prelude.{unsigned_abs}
use Rattle.std.specs.Int.{w128}
use Rattle.std.proofs.lemmas.Int.{to_z-of_z}
use Rattle.std.proofs.lemmas.Bool.{ltb-false}
use Rattle.define_pools.proofs.Sums.{total, sum_by-is-total}
use lib.Signed.{lt_z}
use Rattle.define_rows.specs.Row.{sum_of_sizes}
use Rattle.define_searches.specs.Classes.{Class}
use Rattle.define_searches.specs.Weights.{at}
use Rattle.engine_tests.proofs.small_classes.is_small.Goals as goal

small_sum : (classes : List Class) (xs : List ℤ) (m : ℕ) → ((t : ℕ) → t < length xs → unsigned_abs (at xs t) ≤ m) → sum_of_sizes (map (λ class. length class.members) classes) xs ≤ total (λ class. length class.members) classes * m
small_sum [] xs m small = omega arith
small_sum (class ∷ classes) [] m small = omega arith
small_sum (class ∷ classes) (x ∷ xs) m small =
    let rest = small_sum classes xs m (λ t l. small (suc t) (omega arith)) in
    let here = mul-le-mul_left (length class.members) (small 0 (omega arith)) in
    omega arith

near_zero : (z : ℤ) → lt_z z (negsuc 999999999) ≡ false → lt_z (pos 1000000000) z ≡ false → unsigned_abs z ≤ 1000000000
near_zero (pos n) low high = ltb-false 1000000000 n high
near_zero (negsuc n) low high = omega (arith, ltb-false 999999999 n low)

pub returns-clause-reach : goal.returns-clause-reach
returns-clause-reach c = λ _.
    let all = c.args.classes.now in let row = c.args.row.now in
    let fits : FitsSigned w128 c.side-side.result = search rules in
    let low : lt_z c.side-side.result (negsuc 999999999) ≡ false = simp to_z-of_z at c.if-side.false in
    let high : lt_z (pos 1000000000) c.side-side.result ≡ false = simp to_z-of_z at c.if-side-gt-GREATEST.false in
    let side = near_zero c.side-side.result low high in
    let sum = small_sum all.classes row.a 1000000000 (λ t l. c.loop-entry.invariant t (omega (arith, c.loop-entry-test.false, ap length c.entries-entry-items.ensures))) in
    (omega (arith, side, ap unsigned_abs c.side-side.ensures, sum, c.facts.ensures.few_members, sum_by-is-total (λ (class : Class). length class.members) all.classes), tt)
