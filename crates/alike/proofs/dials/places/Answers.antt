use Rattle.std.proofs.Common.{◌≡◌, ◌<◌, ◌≤◌, ℕ, suc, ◌+◌, drop, length, get_or, sym, ap, ◌∙◌, arith, subst}
use Rattle.std.specs.List.{fold}
use Rattle.std.proofs.lemmas.List.{get_or_default}
use Rattle.std.proofs.Math.Nat.{lt_of_not-le}
use Rattle.frac128.specs.Divisors.{lcm_of}
use Rattle.define_runs.specs.Spreading.{greatest_total}
use Rattle.define_runs.proofs.CommonTotals.{lcm_of-positive}
use Rattle.alike.proofs.Lengths.{fold-next, passes_in_end}
use Rattle.alike.proofs.dials.places.Goals as goal

pub returns-in_err-places : goal.returns-in_err-places
returns-in_err-places c =
    let sizes = c.args.sizes.now in let k = c.loop-size.size-index in
    let within : k < length sizes = omega arith in
    let passed : lcm_of c.loop-size.places (get_or sizes k 0) ≤ greatest_total → ⊥ = c.in_err-places.ensures in
    let high : greatest_total < fold lcm_of c.loop-size.places (drop k sizes) =
    passes_in_end c.loop-size.places greatest_total sizes k (get_or sizes k 0) within (get_or_default sizes k 0 (get_or sizes k 0) within) c.requires c.loop-size.invariant.some (lt_of_not-le passed) in
    let so_far = c.loop-size.invariant.so_far in
    rw c.from_residual.ensures (λ low. below (fold lcm_of 1 sizes) (fold lcm_of c.loop-size.places (drop k sizes)) greatest_total so_far high low)
  where
    below : (m n limit : ℕ) → m ≡ n → limit < n → m ≤ limit → ⊥
    below m n limit e h l = omega arith

pub loop-size-preserved : goal.loop-size-preserved
loop-size-preserved c =
    let sizes = c.args.sizes.now in let k = c.loop-size.size-index in
    let within : k < length sizes = omega arith in
    let told : (lcm_of c.loop-size.places (get_or sizes k 0) ≤ greatest_total) × (c.in_ok-places.places ≡ lcm_of c.loop-size.places (get_or sizes k 0)) = c.in_ok-places.ensures in
    let positive : 0 < lcm_of c.loop-size.places (get_or sizes k 0) = lcm_of-positive c.loop-size.places (get_or sizes k 0) c.loop-size.invariant.some (c.requires k 0 within) in
    let is = sym told.1 in
    let more : suc k ≡ k + 1 = omega arith in
    record {
      some = subst (λ n. 0 < n) is positive;
      within = subst (λ n. n ≤ greatest_total) is told.0;
      so_far = c.loop-size.invariant.so_far ∙ (fold-next c.loop-size.places sizes k (get_or sizes k 0) within (get_or_default sizes k 0 (get_or sizes k 0) within)
          ∙ (ap (λ n. fold lcm_of n (drop (suc k) sizes)) is ∙ ap (λ n. fold lcm_of c.in_ok-places.places (drop n sizes)) more));
    }
