use Rattle.std.proofs.Common.{◌≡◌, ◌<◌, ◌≤◌, ◌*◌, length, refl, sym, ap, subst, ◌∙◌, arith, rules, FitsSigned}
use Rattle.std.specs.Int.{w128}
use Rattle.std.specs.List.{All, fold}
use Rattle.std.proofs.lemmas.Int.{to_z-of_z}
use Rattle.std.proofs.Math.Nat.{mul-pos, lt_of_not-le}
use Rattle.frac128.specs.Divisors.{lcm_of}
use Rattle.define_runs.specs.Spreading.{dial, greatest_total, partly_taken, TotalPass}
use Rattle.define_runs.proofs.CommonTotals.{dial-positive, lcm_of-positive}
use Rattle.alike.proofs.Parts.{sizes_positive}
use Rattle.alike.proofs.Totals.{next_so_far, passes_here}
use Rattle.alike.proofs.Words128.{signed_is, unsigned_is}
use Rattle.alike.proofs.spreading.common_total.Goals as goal

pub next_total-requires : goal.next_total-requires
next_total-requires c =
    let all = c.args.classes.now in
    let fit : FitsSigned w128 c.den-den.result = search rules in
    let den = unsigned_is c.unsigned_abs.result c.den-den.result c.index-parts-place.result.1.den c.unsigned_abs.ensures.value fit c.den-den.ensures.value in
    let sizes : c.deref.result.now ≡ partly_taken all.classes c.index-parts-place.result.0 =
    c.deref.ensures.value ∙ (c.in_ok-sizes.ensures ∙ (ap (λ classes. partly_taken classes c.counts.result.now) c.classes.ensures ∙ ap (partly_taken all.classes) c.counts.ensures)) in
    record {
      total = (c.loop-place.invariant.some, c.loop-place.invariant.within);
      den = subst (λ n. 0 < n) (sym den) c.den-den.ensures.lowest.0;
      sizes = subst (λ xs. All (λ size. 0 < size) xs) (sym sizes) (sizes_positive all.classes c.index-parts-place.result.0);
    }

pub loop-place-preserved : goal.loop-place-preserved
loop-place-preserved c =
    let all = c.args.classes.now in let part = c.index-parts-place.result in
    let fit : FitsSigned w128 c.den-den.result = search rules in
    let den : c.unsigned_abs.result ≡ part.1.den = unsigned_is c.unsigned_abs.result c.den-den.result part.1.den c.unsigned_abs.ensures.value fit c.den-den.ensures.value in
    let sizes : c.deref.result.now ≡ partly_taken all.classes part.0 =
    c.deref.ensures.value ∙ (c.in_ok-sizes.ensures ∙ (ap (λ classes. partly_taken classes c.counts.result.now) c.classes.ensures ∙ ap (partly_taken all.classes) c.counts.ensures)) in
    let told : (lcm_of c.loop-place.total (c.unsigned_abs.result * fold lcm_of 1 c.deref.result.now) ≤ greatest_total) × (c.in-Some.next ≡ lcm_of c.loop-place.total (c.unsigned_abs.result * fold lcm_of 1 c.deref.result.now)) = c.in-Some.ensures in
    let step : c.unsigned_abs.result * fold lcm_of 1 c.deref.result.now ≡ part.1.den * dial all part.0 = ap (λ n. n * fold lcm_of 1 c.deref.result.now) den ∙ ap (λ xs. part.1.den * fold lcm_of 1 xs) sizes in
    let low : lcm_of c.loop-place.total (part.1.den * dial all part.0) ≤ greatest_total = subst (λ n. lcm_of c.loop-place.total n ≤ greatest_total) step told.0 in
    let next : c.in-Some.next ≡ lcm_of c.loop-place.total (part.1.den * dial all part.0) = told.1 ∙ ap (lcm_of c.loop-place.total) step in
    let more : 0 < lcm_of c.loop-place.total (part.1.den * dial all part.0) = lcm_of-positive c.loop-place.total (part.1.den * dial all part.0) c.loop-place.invariant.some (mul-pos c.den-den.ensures.lowest.0 (dial-positive all part.0)) in
    let inside : c.loop-place.place < length c.args.parts.now = omega arith in
    record {
      some = subst (λ n. 0 < n) (sym next) more;
      within = subst (λ n. n ≤ greatest_total) (sym next) low;
      so_far = next_so_far all c.args.parts.now c.loop-place.place c.loop-place.total c.in-Some.next part inside c.index-parts-place.is low next c.loop-place.invariant.so_far;
    }

pub returns-in-None : goal.returns-in-None
returns-in-None c =
    let all = c.args.classes.now in let part = c.index-parts-place.result in
    let fit : FitsSigned w128 c.den-den.result = search rules in
    let den : c.unsigned_abs.result ≡ part.1.den = unsigned_is c.unsigned_abs.result c.den-den.result part.1.den c.unsigned_abs.ensures.value fit c.den-den.ensures.value in
    let sizes : c.deref.result.now ≡ partly_taken all.classes part.0 =
    c.deref.ensures.value ∙ (c.in_ok-sizes.ensures ∙ (ap (λ classes. partly_taken classes c.counts.result.now) c.classes.ensures ∙ ap (partly_taken all.classes) c.counts.ensures)) in
    let step : c.unsigned_abs.result * fold lcm_of 1 c.deref.result.now ≡ part.1.den * dial all part.0 = ap (λ n. n * fold lcm_of 1 c.deref.result.now) den ∙ ap (λ xs. part.1.den * fold lcm_of 1 xs) sizes in
    let told : lcm_of c.loop-place.total (c.unsigned_abs.result * fold lcm_of 1 c.deref.result.now) ≤ greatest_total → ⊥ = c.in-None.ensures in
    let high : greatest_total < lcm_of c.loop-place.total (part.1.den * dial all part.0) = subst (λ n. greatest_total < lcm_of c.loop-place.total n) step (lt_of_not-le told) in
    let inside : c.loop-place.place < length c.args.parts.now = omega arith in
    let pass : TotalPass = record { place = c.loop-place.place; total = c.loop-place.total; den = part.1.den } in (
      pass,
      passes_here all c.args.parts.now c.loop-place.place c.loop-place.total part inside c.index-parts-place.is high c.loop-place.invariant.so_far,
      refl,
      signed_is c.loop-place.total c.loop-place.invariant.within,
      to_z-of_z w128 c.den-den.result fit ∙ c.den-den.ensures.value,
    )
