use Rattle.std.proofs.Common.{◌≡◌, ◌<◌, ◌≤◌, ◌*◌, ◌/◌, inl, inr, sym, arith, subst, SomeIff}
use Rattle.std.specs.List.{fold}
use Rattle.std.proofs.lemmas.List.Elements.{recursion_from_All}
use Rattle.std.proofs.Math.Nat.{lt_of_not-le}
use Rattle.frac128.specs.Divisors.{lcm_of}
use Rattle.define_runs.specs.Spreading.{greatest_total}
use Rattle.alike.proofs.Lengths.{fold-positive, next_passes, product_passes}
use Rattle.alike.proofs.spreading.next_total.Goals as goal

pub nonzero_div-places : goal.nonzero_div-places
nonzero_div-places c =
    let sizes = c.args.sizes.now in
    let told : (fold lcm_of 1 sizes ≤ greatest_total) × (c.in_ok-places.places ≡ fold lcm_of 1 sizes) = c.in_ok-places.ensures in
    subst (λ n. 0 < n) (sym told.1) (fold-positive 1 sizes (omega arith) (recursion_from_All (λ s. 0 < s) sizes c.requires.sizes))

pub returns-in_err-places : goal.returns-in_err-places
returns-in_err-places c =
    let sizes = c.args.sizes.now in
    let passed : fold lcm_of 1 sizes ≤ greatest_total → ⊥ = c.in_err-places.ensures in
    let some = fold-positive 1 sizes (omega arith) (recursion_from_All (λ s. 0 < s) sizes c.requires.sizes) in
    rw c.from_residual.ensures (next_passes c.args.total c.args.den (fold lcm_of 1 sizes) greatest_total c.requires.total.0 c.requires.den some (inl (lt_of_not-le passed)))

pub returns-then-den-places : goal.returns-then-den-places
returns-then-den-places c =
    let sizes = c.args.sizes.now in
    let told : (fold lcm_of 1 sizes ≤ greatest_total) × (c.in_ok-places.places ≡ fold lcm_of 1 sizes) = c.in_ok-places.ensures in
    let some = fold-positive 1 sizes (omega arith) (recursion_from_All (λ s. 0 < s) sizes c.requires.sizes) in
    let high : greatest_total / fold lcm_of 1 sizes < c.args.den = subst (λ n. greatest_total / n < c.args.den) told.1 c.if-den-places.true in
    next_passes c.args.total c.args.den (fold lcm_of 1 sizes) greatest_total c.requires.total.0 c.requires.den some (inr (product_passes c.args.den (fold lcm_of 1 sizes) greatest_total some high))

pub returns : goal.returns
returns c =
    let sizes = c.args.sizes.now in
    let told : (fold lcm_of 1 sizes ≤ greatest_total) × (c.in_ok-places.places ≡ fold lcm_of 1 sizes) = c.in_ok-places.ensures in
    subst (λ n. SomeIff c.common_multiple.result (lcm_of c.args.total (c.args.den * n) ≤ greatest_total) (lcm_of c.args.total (c.args.den * n))) told.1 c.common_multiple.ensures
