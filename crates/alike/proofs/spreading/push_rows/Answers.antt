use Rattle.std.proofs.Common.{◌≡◌, ◌<◌, ◌≤◌, ◌*◌, ◌/◌, ◌++◌, ℕ, sym, ap, ◌∙◌, arith, subst}
use Rattle.std.specs.Int.{◌∣◌}
use Rattle.std.specs.List.{fold, All}
use Rattle.std.proofs.lemmas.Result.{on_ok_weaker}
use Rattle.std.proofs.Math.Nat.{le_of_dvd, mul-le-mul_right}
use Rattle.frac128.specs.Divisors.{lcm_of}
use Rattle.define_runs.specs.Spreading.{dial, greatest_total, partly_taken}
use Rattle.define_runs.proofs.CommonTotals.{dial-positive}
use Rattle.alike.proofs.ArcRows.{rows_are}
use Rattle.alike.proofs.Parts.{sizes_positive, sizes_divide}
use Rattle.alike.proofs.spreading.push_rows.Goals as goal

pub places-requires : goal.places-requires
places-requires c =
    let all = c.args.classes.now in let counts = c.args.counts.now in
    let sizes : c.deref.result.now ≡ partly_taken all.classes counts = c.deref.ensures.value ∙ (c.in_ok-sizes.ensures ∙ ap (λ classes. partly_taken classes counts) c.classes.ensures) in
    subst (λ xs. All (λ size. 0 < size) xs) (sym sizes) (sizes_positive all.classes counts)

-- if the dial's length times the denominator divides a total within the limit, the length is within the limit
within : (den places total limit : ℕ) → 0 < den → 0 < total → den * places ∣ total → total ≤ limit → places ≤ limit
within den places total limit over some h low =
    let product = le_of_dvd some h in
    let more : 1 * places ≤ den * places = mul-le-mul_right {m = 1} {n = den} places over in omega arith

pub unreachable-requires : goal.unreachable-requires
unreachable-requires c =
    let all = c.args.classes.now in let counts = c.args.counts.now in
    let sizes : c.deref.result.now ≡ partly_taken all.classes counts = c.deref.ensures.value ∙ (c.in_ok-sizes.ensures ∙ ap (λ classes. partly_taken classes counts) c.classes.ensures) in
    let passed : fold lcm_of 1 c.deref.result.now ≤ greatest_total → ⊥ = c.in_default.ensures in
    passed (subst (λ xs. fold lcm_of 1 xs ≤ greatest_total) (sym sizes) (within c.args.fraction.den (dial all counts) c.args.total greatest_total c.requires.over c.requires.some c.requires.multiple c.requires.within))

pub place_weight-weight-requires-clause-places : goal.place_weight-weight-requires-clause-places
place_weight-weight-requires-clause-places c =
    let all = c.args.classes.now in let counts = c.args.counts.now in
    let sizes : c.deref.result.now ≡ partly_taken all.classes counts = c.deref.ensures.value ∙ (c.in_ok-sizes.ensures ∙ ap (λ classes. partly_taken classes counts) c.classes.ensures) in
    let told : (fold lcm_of 1 c.deref.result.now ≤ greatest_total) × (c.in-Some.places ≡ fold lcm_of 1 c.deref.result.now) = c.in-Some.ensures in
    let places : c.in-Some.places ≡ dial all counts = told.1 ∙ ap (fold lcm_of 1) sizes in
    subst (λ n. 0 < n) (sym places) (dial-positive all counts)

pub place_weight-weight-requires-clause-multiple : goal.place_weight-weight-requires-clause-multiple
place_weight-weight-requires-clause-multiple c =
    let all = c.args.classes.now in let counts = c.args.counts.now in
    let sizes : c.deref.result.now ≡ partly_taken all.classes counts = c.deref.ensures.value ∙ (c.in_ok-sizes.ensures ∙ ap (λ classes. partly_taken classes counts) c.classes.ensures) in
    let told : (fold lcm_of 1 c.deref.result.now ≤ greatest_total) × (c.in-Some.places ≡ fold lcm_of 1 c.deref.result.now) = c.in-Some.ensures in
    let places : c.in-Some.places ≡ dial all counts = told.1 ∙ ap (fold lcm_of 1) sizes in
    subst (λ n. c.args.fraction.den * n ∣ c.args.total) (sym places) c.requires.multiple

pub cuts-requires-clause-places : goal.cuts-requires-clause-places
cuts-requires-clause-places c =
    let all = c.args.classes.now in let counts = c.args.counts.now in
    let sizes : c.deref.result.now ≡ partly_taken all.classes counts = c.deref.ensures.value ∙ (c.in_ok-sizes.ensures ∙ ap (λ classes. partly_taken classes counts) c.classes.ensures) in
    let told : (fold lcm_of 1 c.deref.result.now ≤ greatest_total) × (c.in-Some.places ≡ fold lcm_of 1 c.deref.result.now) = c.in-Some.ensures in
    let places : c.in-Some.places ≡ dial all counts = told.1 ∙ ap (fold lcm_of 1) sizes in
    subst (λ n. 0 < n) (sym places) (dial-positive all counts)

pub cuts-requires-clause-sizes : goal.cuts-requires-clause-sizes
cuts-requires-clause-sizes c =
    let all = c.args.classes.now in let counts = c.args.counts.now in
    let sizes : c.deref.result.now ≡ partly_taken all.classes counts = c.deref.ensures.value ∙ (c.in_ok-sizes.ensures ∙ ap (λ classes. partly_taken classes counts) c.classes.ensures) in
    let told : (fold lcm_of 1 c.deref.result.now ≤ greatest_total) × (c.in-Some.places ≡ fold lcm_of 1 c.deref.result.now) = c.in-Some.ensures in
    let places : c.in-Some.places ≡ dial all counts = told.1 ∙ ap (fold lcm_of 1) sizes in
    let again : c.deref-2.result.now ≡ partly_taken all.classes counts = c.deref-2.ensures.value ∙ (c.in_ok-sizes.ensures ∙ ap (λ classes. partly_taken classes counts) c.classes.ensures) in
    subst (λ xs. All (λ size. (0 < size) × (size ∣ c.in-Some.places)) xs) (sym again) (subst (λ n. All (λ size. (0 < size) × (size ∣ n)) (partly_taken all.classes counts)) (sym places) (sizes_divide all counts))

pub returns : goal.returns
returns c =
    let all = c.args.classes.now in let counts = c.args.counts.now in
    let sizes : c.deref.result.now ≡ partly_taken all.classes counts = c.deref.ensures.value ∙ (c.in_ok-sizes.ensures ∙ ap (λ classes. partly_taken classes counts) c.classes.ensures) in
    let told : (fold lcm_of 1 c.deref.result.now ≤ greatest_total) × (c.in-Some.places ≡ fold lcm_of 1 c.deref.result.now) = c.in-Some.ensures in
    let places : c.in-Some.places ≡ dial all counts = told.1 ∙ ap (fold lcm_of 1) sizes in
    let weight = c.place_weight-weight.ensures.value ∙ ap (λ n. c.args.fraction.num * (c.args.total / (c.args.fraction.den * n))) places in
    on_ok_weaker c.push_arcs.result
    (λ e. e ∙ ap (λ rows. c.args.rows.now.items ++ rows) (rows_are all counts c.args.fraction c.args.total c.place_weight-weight.result c.requires.multiple weight))
    c.push_arcs.ensures
