-- The length of a dial, found size by size, and tested against the greatest total.
use Rattle.std.proofs.Common.{◌≡◌, ◌⊎◌, inl, inr, ℕ, zero, suc, ◌+◌, ◌*◌, ◌/◌, ◌≤◌, ◌<◌, List, [], ◌∷◌, drop, length, get_or, sym, ap, ◌∙◌, arith, subst}
use Rattle.std.specs.List.{fold, All, AllByRecursion}
use Rattle.std.proofs.lemmas.List.Elements.{recursion_from_All}
use Rattle.std.proofs.Math.Nat.{mul-pos, mul-le-mul_left, mul-le-mul_right, lt-mul-div-succ, le_of_dvd}
use Rattle.std.proofs.Math.Seq.{drop-cons}
use Rattle.frac128.specs.Divisors.{lcm_of, IsLeastCommonMultiple}
use Rattle.frac128.proofs.DivisorLaws.{IsLeastCommonMultiple-lcm_of}
use Rattle.define_runs.proofs.CommonTotals.{lcm_of-positive}

-- two numbers above 0 are at most their least common multiple
pub lcm_of-beyond : (x y : ℕ) → 0 < x → 0 < y → (x ≤ lcm_of x y) × (y ≤ lcm_of x y)
unfolding IsLeastCommonMultiple
lcm_of-beyond x y some more =
    let least = IsLeastCommonMultiple-lcm_of x y some in
    let positive = lcm_of-positive x y some more in
    (le_of_dvd positive least.0, le_of_dvd positive least.1)

pub fold-beyond : (a : ℕ) (xs : List ℕ) → 0 < a → AllByRecursion (λ x. 0 < x) xs → a ≤ fold lcm_of a xs
fold-beyond a [] some each = omega arith
fold-beyond a (x ∷ xs) some each =
    let one = lcm_of-beyond a x some each.0 in
    let rest = fold-beyond (lcm_of a x) xs (lcm_of-positive a x some each.0) each.1 in
    omega (arith, one.0, rest)

pub fold-positive : (a : ℕ) (xs : List ℕ) → 0 < a → AllByRecursion (λ x. 0 < x) xs → 0 < fold lcm_of a xs
fold-positive a xs some each = let beyond = fold-beyond a xs some each in omega arith

-- if `size` is the size at `k`, the least common multiple of `places` and the sizes from `k` on is that of `lcm_of places size` and the
-- sizes after `k`
pub fold-next : (places : ℕ) (sizes : List ℕ) (k size : ℕ) → k < length sizes → size ≡ get_or sizes k size → fold lcm_of places (drop k sizes) ≡ fold lcm_of (lcm_of places size) (drop (suc k) sizes)
fold-next places sizes k size within at =
    let cut : drop k sizes ≡ size ∷ drop (suc k) sizes = drop-cons sizes k size within ∙ ap (λ s. s ∷ drop (suc k) sizes) (sym at) in
    ap (fold lcm_of places) cut

-- if the length passes the limit after some size, the length over all sizes does too
pub passes_in_end : (places limit : ℕ) (sizes : List ℕ) (k size : ℕ) → k < length sizes → size ≡ get_or sizes k size → All (λ s. 0 < s) sizes → 0 < places → limit < lcm_of places size →
    limit < fold lcm_of places (drop k sizes)
passes_in_end places limit sizes k size within at each some high =
    let positive : 0 < size = (let h = each k size within in subst (λ n. 0 < n) (sym at) h) in
    let next = fold-next places sizes k size within at in
    let beyond = fold-beyond (lcm_of places size) (drop (suc k) sizes) (lcm_of-positive places size some positive) (each_drop (suc k) sizes (recursion_from_All (λ s. 0 < s) sizes each)) in
    omega (arith, next, beyond)
  where
    each_drop : (k : ℕ) (xs : List ℕ) → AllByRecursion (λ s. 0 < s) xs → AllByRecursion (λ s. 0 < s) (drop k xs)
    each_drop zero xs h = h
    each_drop (suc k) [] h = tt
    each_drop (suc k) (x ∷ xs) h = each_drop k xs h.1

-- if `den` is above `limit / places`, `den * places` is above the limit
pub product_passes : (den places limit : ℕ) → 0 < places → limit / places < den → limit < den * places
product_passes den places limit some high =
    let beyond = lt-mul-div-succ limit some in
    let more : places * (limit / places + 1) ≤ places * den = mul-le-mul_left {m = limit / places + 1} {n = den} places (omega arith) in
    omega (arith, beyond, more)

-- if `places` or `den * places` is above the limit, so is the least common multiple of `total` and `den * places`
pub next_passes : (total den places limit : ℕ) → 0 < total → 0 < den → 0 < places → (limit < places) ⊎ (limit < den * places) → lcm_of total (den * places) ≤ limit → ⊥
next_passes total den places limit some over has high low =
    let beyond = (lcm_of-beyond total (den * places) some (mul-pos over has)).1 in
    by high (omega arith)
  where
    by : (limit < places) ⊎ (limit < den * places) → den * places ≤ limit → ⊥
    by (inl high) low = let more : 1 * places ≤ den * places = mul-le-mul_right places over in omega arith
    by (inr high) low = omega arith
