-- Sums over the arcs of a dial.
use Rattle.std.proofs.Common.{◌≡◌, ℕ, zero, suc, ◌+◌, ◌-◌, ◌*◌, ◌/◌, ◌≤◌, ◌<◌, true, false, eqb, ltb, List, [], ◌∷◌, map, refl, sym, ap, ◌∙◌, ⊎_elim, arith, mul-le-mul_right}
use Rattle.std.specs.List.{list_all, AllByRecursion}
use Rattle.std.proofs.lemmas.Bool.{and_parts, cases_lt, ltb-true, ne_eqb}
use Rattle.std.proofs.Math.Nat.{div-eq_of_lt-le, div-mul-le_self, lt-div-mul-add, mul-div_cancel}
use Rattle.define_pools.proofs.Sums.{total}
use Rattle.define_pools.specs.Lists.{includes, is_increasing}
use Rattle.define_runs.specs.Spreading.{arcs_between}
use Rattle.define_runs.proofs.Windows.{sum_below}
use Rattle.define_runs.proofs.Dials.{each_included}

-- ---- functions that stay the same along each arc

sum_step : (g : ℕ → ℕ) (x w : ℕ) → ((z : ℕ) → x ≤ z → z < x + w → g z ≡ g x) → sum_below g (x + w) ≡ sum_below g x + w * g x
sum_step g x zero same = let e : x + 0 ≡ x = omega arith in rw e (omega arith)
sum_step g x (suc w) same =
    let e : x + suc w ≡ suc (x + w) = omega arith in
    let rest = sum_step g x w (λ z low below. same z low (omega arith)) in
    let here = same (x + w) (omega arith) (omega arith) in
    rw e (omega (arith, rest, here))

-- the places of a list don't fall, and the last is at most `end`. `g` is constant from each place up to the next, and from the last up to
-- `end`
abbrev pub Steps : (ℕ → ℕ) → ℕ → List ℕ → Type 0
Steps g end [] = Unit {0}
Steps g end (x ∷ []) = (x ≤ end) × ((z : ℕ) → x ≤ z → z < end → g z ≡ g x)
Steps g end (x ∷ (y ∷ ys)) = ((x ≤ y) × ((z : ℕ) → x ≤ z → z < y → g z ≡ g x)) × Steps g end (y ∷ ys)

-- if `g` has one value on each arc, the sum over the arcs of length times `g` is the sum of `g` over the places from `x` to `end`
pub arcs_sum : (g : ℕ → ℕ) (end x : ℕ) (xs : List ℕ) → Steps g end (x ∷ xs) → total (λ a. a.1 * g a.0) (arcs_between end (x ∷ xs)) + sum_below g x ≡ sum_below g end
arcs_sum g end x [] steps =
    let low = steps.0 in
    let e : x + (end - x) ≡ end = omega arith in
    let sum = sum_step g x (end - x) (λ z l m. steps.1 z l (omega arith)) in
    let sum' : sum_below g end ≡ sum_below g x + (end - x) * g x = ap (sum_below g) (sym e) ∙ sum in
    omega (arith, sum')
arcs_sum g end x (y ∷ ys) steps =
    let low = steps.0.0 in
    let e : x + (y - x) ≡ y = omega arith in
    let sum = sum_step g x (y - x) (λ z l m. steps.0.1 z l (omega arith)) in
    let sum' : sum_below g y ≡ sum_below g x + (y - x) * g x = ap (sum_below g) (sym e) ∙ sum in
    omega (arith, sum', arcs_sum g end y ys steps.1)

-- ---- windows that turn at each mark

same_quotient : (q x z : ℕ) → x ≤ z → z < x / q * q + q → z / q ≡ x / q
same_quotient q x z low below = div-eq_of_lt-le q (omega (arith, div-mul-le_self x q)) (omega arith)

-- the marks are the multiples of `q` below `end`
module _ (f : ℕ → ℕ) (q size end : ℕ) (some : 0 < q) (whole : q * size ≡ end) where
  last : (x : ℕ) → size ≤ x / q + 1 → end ≤ x / q * q + q
  last x l = let more = mul-le-mul_right q l in omega (arith, more, whole)

  -- `z / q` is the number of the last mark up to place z. If an increasing list of places below `end` contains all marks after its first
  -- place `x`, then `z / q` is the same for all z from one place of the list to before the next, and from the last place to before `end`
  pub steps_turn : (x : ℕ) (xs : List ℕ) → is_increasing (x ∷ xs) ≡ true → AllByRecursion (λ y. y < end) (x ∷ xs) →
      ((j : ℕ) → j < size → x < j * q → includes xs (j * q) ≡ true) → Steps (λ z. f (z / q)) end (x ∷ xs)
  steps_turn x [] up below marked =
      let next : end ≤ x / q * q + q =
      ⊎_elim (λ (l : x / q + 1 < size). absurd (let h = marked (x / q + 1) l (omega (arith, lt-div-mul-add {a = x} some)) in cc))
      (λ (l : size ≤ x / q + 1). last x l) (cases_lt (x / q + 1) size) in
      let b = below.0 in
      (omega arith, λ z low m. ap f (same_quotient q x z low (omega arith)))
  steps_turn x (y ∷ ys) up below marked =
      let parts = and_parts (list_all (λ z. ltb x z) (y ∷ ys)) (is_increasing (y ∷ ys)) up in
      let tops = and_parts (ltb x y) (list_all (λ z. ltb x z) ys) parts.0 in
      let less = ltb-true x y tops.0 in
      let ups = and_parts (list_all (λ z. ltb y z) ys) (is_increasing ys) parts.1 in
      let b = below.1.0 in
      let next : y ≤ x / q * q + q =
      ⊎_elim (λ (l : x / q + 1 < size).
      let h = marked (x / q + 1) l (omega (arith, lt-div-mul-add {a = x} some)) in
      let first : y ≤ (x / q + 1) * q = each_included (λ z. y ≤ z) (y ∷ ys) ((x / q + 1) * q) (omega arith, from_above y ys ups.0) h in omega arith)
      (λ (l : size ≤ x / q + 1). let e = last x l in omega arith) (cases_lt (x / q + 1) size) in (
        (omega arith, λ z low m. ap f (same_quotient q x z low (omega arith))),
        steps_turn y ys parts.1 below.1 (λ j l m. let h = marked j l (omega arith) in let other : eqb y (j * q) ≡ false = ne_eqb y (j * q) (λ e. omega arith) in rw other at h),
      )
    where
      from_above : (y : ℕ) (ys : List ℕ) → list_all (λ z. ltb y z) ys ≡ true → AllByRecursion (λ z. y ≤ z) ys
      from_above y [] h = tt
      from_above y (z ∷ ys) h = let parts = and_parts (ltb y z) (list_all (λ z. ltb y z) ys) h in let l = ltb-true y z parts.0 in (omega arith, from_above y ys parts.1)

  -- the sum of `f (z / q)` over the places z below `m * q` is q times the sum of f below m
  pub whole_turns : (m : ℕ) → sum_below (λ z. f (z / q)) (m * q) ≡ q * sum_below f m
  whole_turns zero = let e : 0 * q ≡ 0 = omega arith in rw e (omega arith)
  whole_turns (suc m) =
      let e : suc m * q ≡ m * q + q = omega arith in
      let here : m * q / q ≡ m = mul-div_cancel m some in
      let sum = sum_step (λ z. f (z / q)) (m * q) q (λ z low b. ap f (div-eq_of_lt-le q low (omega arith) ∙ sym here)) in
      let value : f (m * q / q) ≡ f m = ap f here in
      let term : q * f (m * q / q) ≡ q * f m = ap (λ n. q * n) value in
      rw e (omega (arith, sum, term, whole_turns m))

-- ---- facts of each arc

pub each_arc : (P : ℕ → Type 0) (end : ℕ) (xs : List ℕ) → AllByRecursion P xs → AllByRecursion (λ a. P a.0) (arcs_between end xs)
each_arc P end [] each = tt
each_arc P end (x ∷ []) each = each
each_arc P end (x ∷ (y ∷ ys)) each = (each.0, each_arc P end (y ∷ ys) each.1)

pub each_long : (end : ℕ) (xs : List ℕ) → is_increasing xs ≡ true → AllByRecursion (λ x. x < end) xs → AllByRecursion (λ a. 0 < a.1) (arcs_between end xs)
each_long end [] up below = tt
each_long end (x ∷ []) up below = let b = below.0 in (omega arith, tt)
each_long end (x ∷ (y ∷ ys)) up below =
    let parts = and_parts (list_all (λ z. ltb x z) (y ∷ ys)) (is_increasing (y ∷ ys)) up in
    let less = ltb-true x y (and_parts (ltb x y) (list_all (λ z. ltb x z) ys) parts.0).0 in
    (omega arith, each_long end (y ∷ ys) parts.1 below.1)

pub arcs_begin : (end : ℕ) (xs : List ℕ) → map (λ a. a.0) (arcs_between end xs) ≡ xs
arcs_begin end [] = refl
arcs_begin end (x ∷ []) = refl
arcs_begin end (x ∷ (y ∷ ys)) = ap (λ rest. x ∷ rest) (arcs_begin end (y ∷ ys))
